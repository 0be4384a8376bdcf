use Rattle.std.proofs.Common.{List, ℕ, refl, subst}
use Rattle.wy_vc_spec.specs.Making.{val_name}
use Rattle.wy_vc_spec.specs.Values.{word_at}
use Rattle.wy_vc_body.specs.wy_vc_operations.Growing.{Makes}
use Rattle.wy_vc_body.specs.wy_vc_exprs.declared.walk.Walk.{Walk}
use Rattle.wy_vc.proofs.SimpleLemmas.{declared_went}
use Rattle.wy_vc.proofs.simple.declare_name.Goals as goal

pub returns-clause-value : goal.returns-clause-value
returns-clause-value c =
    let a = c.args.walk.now in
    let b : Walk = record a { maker = c.new_name.new.maker } in
    let made = subst (λ (ws : List (List ℕ)). Makes a.maker.terms b.maker.terms c.in_ok-name.name (val_name (word_at ws c.args.x) a.maker.count)) c.as_slice-words.ensures c.in_ok-name.ensures.made in
    declared_went c.args.frame.now.routine.now.variables c.args.x c.in_ok-name.name a b c.args.here c.declare.new.self c.requires.sound c.requires.slots made c.in_ok-name.ensures.count refl refl c.in_ok-declare.ensures.vars c.in_ok-declare.ensures.set
