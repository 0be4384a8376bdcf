use Rattle.std.proofs.Common.{refl}
use Rattle.wy_vc_exprs.proofs.StepLemmas.{made_assumed}
use Rattle.wy_vc_exprs.proofs.NumberedLemmas.{at_itself}
use Rattle.wy_vc_exprs.proofs.ResultLemmas.{on_ok}
use Rattle.wy_vc_exprs.proofs.StateLemmas.{sound_made}
use Rattle.wy_vc_exprs.proofs.steps.assume_true.Goals as goal

pub assume-requires-clause-sound : goal.assume-requires-clause-sound
assume-requires-clause-sound c =
    sound_made _ _ c.requires.sound (c.in_ok-formula.ensures.made _ (at_itself c.requires.v)).kept refl refl

pub returns-clause-value : goal.returns-clause-value
returns-clause-value c =
    on_ok c.assume.result _ _ c.assume.ensures.value (λ s. made_assumed _ _ _ _ _ c.requires.sound (c.in_ok-formula.ensures.made _ (at_itself c.requires.v)) refl refl refl s)
