use Rattle.std.proofs.Common.{refl}
use Rattle.wy_vc_exprs.proofs.StepLemmas.{finish_made}
use Rattle.wy_vc_exprs.proofs.NumberedLemmas.{at_itself}
use Rattle.wy_vc_exprs.proofs.steps.walk_len.Goals as goal

pub returns-clause-value : goal.returns-clause-value
returns-clause-value c = finish_made _ _ _ _ _ _ c.requires.sound (c.in_ok-made.ensures.made _ (at_itself c.requires.v)) c.in_ok-pass.ensures.after refl refl
