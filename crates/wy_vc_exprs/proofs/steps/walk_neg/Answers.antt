use Rattle.std.proofs.Common.{[], ◌∷◌, ap, refl}
use Rattle.wy_vc_exprs.proofs.StepLemmas.{finish_goals}
use Rattle.wy_vc_exprs.proofs.NumberedLemmas.{at_itself}
use Rattle.wy_term.specs.Term.{Term}
use Rattle.wy_term.specs.declared.cond.CondKind.TheVariants as kinds
use Rattle.wy_vc_terms.specs.wy_vc_spec.Walks.{goals_of, range_goals}
use Rattle.wy_vc_exprs.proofs.StateLemmas.{sound_made}
use Rattle.wy_vc_exprs.proofs.steps.walk_neg.Goals as goal

pub owe_range-requires-clause-sound : goal.owe_range-requires-clause-sound
owe_range-requires-clause-sound c = sound_made _ _ c.requires.sound (c.in_ok-made.ensures.made _ (at_itself c.requires.v)).kept refl refl

pub returns-clause-value : goal.returns-clause-value
returns-clause-value c =
    let m = c.in_ok-made.ensures.made _ (at_itself c.requires.v) in
    finish_goals _ _ _ _ _ _ _ _ _ _ c.requires.sound m refl refl refl c.in_ok-owe_range.ensures.value
    (ap (λ (t : Term). goals_of kinds.Range (range_goals t) ∷ []) m.here.is)
    c.in_ok-pass.ensures.after refl refl
