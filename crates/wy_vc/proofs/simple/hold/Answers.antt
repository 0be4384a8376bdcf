use Rattle.std.proofs.Common.{List, Option, ℕ, refl, sym, subst}
use Rattle.wy_core.specs.CoreSeen.{seen_expr}
use Rattle.wy_vc_spec.specs.Numbered.{numbered}
use Rattle.wy_vc_body.specs.wy_vc_exprs.Slots.{AreSlots}
use Rattle.wy_vc_body.specs.wy_vc_exprs.declared.walk.Walk.{Walk}
use Rattle.wy_vc_body.proofs.wy_vc_exprs_proofs.NumberedLemmas.{at_itself}
use Rattle.wy_vc_body.proofs.wy_vc_exprs_proofs.StateLemmas.{sound_made}
use Rattle.wy_vc.proofs.SimpleLemmas.{held_went, walked_by}
use Rattle.wy_vc.proofs.simple.hold.Goals as goal

pub walked-requires-clause-slots : goal.walked-requires-clause-slots
walked-requires-clause-slots c = subst (λ (vs : List (Option ℕ)). AreSlots c.args.walk.now.maker.terms vs) (sym c.as_slice-vars.ensures.value) c.requires.slots

pub owe-requires-clause-sound : goal.owe-requires-clause-sound
owe-requires-clause-sound c =
    let b = c.walked.new.walk in
    let d : Walk = record b { maker = record b.maker { terms = c.formula.new.terms } } in
    sound_made b d c.in_ok-term.ensures.value.steps.sound (c.in_ok-holds.ensures.made _ (at_itself c.in_ok-term.ensures.value.is.within)).kept refl refl

pub returns-clause-value : goal.returns-clause-value
returns-clause-value c = λ around.
    let a = c.args.walk.now in
    let b = c.walked.new.walk in
    let d : Walk = record b { maker = record b.maker { terms = c.formula.new.terms } } in
    let E = seen_expr c.args.expr.now in
    let walk = walked_by c.args.frame.now E c.as_slice-words.result.now c.as_slice-vars.result.now c.args.here.vars.items a b c.in_ok-term.term c.as_slice-words.ensures c.as_slice-vars.ensures.value c.in_ok-term.ensures.value in
    held_went c.args.frame.now around c.args.at c.in_ok-term.term c.in_ok-holds.holds (numbered E a.maker.node) a b d c.owe.new.self c.args.here c.requires.slots walk (c.in_ok-holds.ensures.made _ (at_itself walk.is.within)) refl refl refl c.in_ok-owe.ensures.value
