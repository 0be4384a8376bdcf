use Rattle.std.proofs.Common.{refl}
use Rattle.wy_vc_exprs.proofs.ResultLemmas.{on_ok}
use Rattle.wy_vc_exprs.proofs.StateLemmas.{steps_assume}
use Rattle.wy_vc_exprs.proofs.walk.Walk.assume.Goals as goal

pub returns-clause-value : goal.returns-clause-value
returns-clause-value c = on_ok c.add_members.result _ _ c.add_members.ensures.value (λ g. steps_assume _ _ _ c.requires.sound refl refl g)
