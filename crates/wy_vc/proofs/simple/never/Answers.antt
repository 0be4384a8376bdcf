use Rattle.std.proofs.Common.{[], refl}
use Rattle.wy_vc_body.specs.wy_vc_exprs.declared.walk.Walk.{Walk}
use Rattle.wy_vc_body.proofs.wy_vc_exprs_proofs.StateLemmas.{sound_made}
use Rattle.wy_vc.proofs.SimpleLemmas.{never_went, none_at}
use Rattle.wy_vc.proofs.simple.never.Goals as goal

pub disjunction-requires : goal.disjunction-requires
disjunction-requires c = (none_at c.args.walk.now.maker.terms c.new.result.items c.new.ensures.items).within

pub owe-requires-clause-sound : goal.owe-requires-clause-sound
owe-requires-clause-sound c =
    let a = c.args.walk.now in
    let b : Walk = record a { maker = record a.maker { terms = c.disjunction.new.terms } } in
    sound_made a b c.requires.sound (c.in_ok-none.ensures.made [] (none_at a.maker.terms c.new.result.items c.new.ensures.items)).kept refl refl

pub returns-clause-value : goal.returns-clause-value
returns-clause-value c = λ body around here.
    let a = c.args.walk.now in
    let b : Walk = record a { maker = record a.maker { terms = c.disjunction.new.terms } } in
    never_went body around c.args.at c.in_ok-none.none a b c.owe.new.self here c.requires.sound (c.in_ok-none.ensures.made [] (none_at a.maker.terms c.new.result.items c.new.ensures.items)) refl refl refl c.in_ok-owe.ensures.value
