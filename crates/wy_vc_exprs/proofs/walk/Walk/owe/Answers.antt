use Rattle.std.proofs.Common.{refl, ◌∙◌}
use Rattle.wy_vc_exprs.proofs.ResultLemmas.{on_ok}
use Rattle.wy_vc_exprs.proofs.OweLemmas.{owe_step}
use Rattle.wy_vc_exprs.proofs.walk.Walk.owe.Goals as goal

pub returns-clause-value : goal.returns-clause-value
returns-clause-value c =
    on_ok c.assume.result _ _ c.assume.ensures.value
    (λ s. owe_step _ _ _ _ _ _ _ c.requires.sound c.requires.goal refl refl c.in_ok-push.ensures.items refl refl refl (c.in_ok-hyps.ensures.items ∙ c.as_slice.ensures.value) s)
