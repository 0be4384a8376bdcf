use Rattle.std.proofs.Common.{refl}
use Rattle.wy_vc_exprs.proofs.StepLemmas.{finish_goals, ap_two}
use Rattle.wy_vc_exprs.proofs.NumberedLemmas.{at_itself}
use Rattle.wy_vc_terms.specs.wy_vc_spec.Walks.{operator_goals}
use Rattle.wy_vc_exprs.proofs.StateLemmas.{sound_made}
use Rattle.wy_vc_exprs.proofs.steps.walk_binary.Goals as goal

pub owe_operation-requires-clause-sound : goal.owe_operation-requires-clause-sound
owe_operation-requires-clause-sound c = sound_made _ _ c.requires.sound (c.in_ok-made.ensures.made _ _ (at_itself c.requires.v) (at_itself c.requires.w)).kept refl refl

pub returns-clause-value : goal.returns-clause-value
returns-clause-value c =
    let m = c.in_ok-made.ensures.made _ _ (at_itself c.requires.v) (at_itself c.requires.w) in
    finish_goals _ _ _ _ _ _ _ _ _ _ c.requires.sound m refl refl refl c.in_ok-owe_operation.ensures.value
    (ap_two (operator_goals c.args.op) (m.kept.trees _ c.requires.w) m.here.is)
    c.in_ok-pass.ensures.after refl refl
