use Rattle.std.proofs.Common.{refl}
use Rattle.wy_vc_exprs.proofs.StepLemmas.{goals_owed}
use Rattle.wy_vc_exprs.proofs.NumberedLemmas.{at_itself}
use Rattle.wy_vc_exprs.proofs.ResultLemmas.{on_ok}
use Rattle.wy_vc_exprs.proofs.StateLemmas.{sound_made}
use Rattle.wy_vc_exprs.proofs.MakingLemmas.{below_read}
use Rattle.wy_vc_exprs.proofs.steps.owe_index.Goals as goal

pub owe_all-requires-clause-sound : goal.owe_all-requires-clause-sound
owe_all-requires-clause-sound c = sound_made _ _ c.requires.sound (c.in_ok-goals.ensures.made _ _ (at_itself c.requires.v) (at_itself c.requires.w)).kept refl refl

pub owe_all-requires-clause-goals : goal.owe_all-requires-clause-goals
owe_all-requires-clause-goals c = below_read _ _ _ c.as_slice.ensures.value c.in_ok-goals.ensures.within

pub returns-clause-value : goal.returns-clause-value
returns-clause-value c =
    on_ok c.owe_all.result _ _ c.owe_all.ensures.value (λ s. goals_owed _ _ _ _ _ _ _ _ c.requires.sound c.as_slice.ensures.value (c.in_ok-goals.ensures.made _ _ (at_itself c.requires.v) (at_itself c.requires.w)) refl refl refl s)
