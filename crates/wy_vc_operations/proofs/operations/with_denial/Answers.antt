use Rattle.wy_vc_operations.proofs.GrowingLemmas.{kept_on, onward_if}
use Rattle.wy_vc_operations.proofs.operations.with_denial.Goals as goal

pub returns-clause-made : goal.returns-clause-made
returns-clause-made c = λ v hv.
    let m = c.in_ok-formula.ensures.made _ hv in
    let n = c.in_ok-denied.ensures.made _ m.here in
    onward_if c.value_of.result _ _ _ _ (kept_on m.kept n.kept) (c.value_of.ensures.made _ n.here)
