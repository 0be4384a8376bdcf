use Rattle.std.proofs.Common.{refl}
use Rattle.wy_vc_exprs.proofs.StepLemmas.{finish_made}
use Rattle.wy_vc_exprs.proofs.NumberedLemmas.{are_itself}
use Rattle.wy_vc_exprs.proofs.steps.walk_record.Goals as goal

pub returns-clause-value : goal.returns-clause-value
returns-clause-value c = finish_made _ _ _ _ _ _ c.requires.sound (c.in_ok-made.ensures.made _ _ refl (are_itself c.requires.fields)) c.in_ok-pass.ensures.after refl refl
