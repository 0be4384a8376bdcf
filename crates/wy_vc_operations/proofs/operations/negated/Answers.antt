use Rattle.wy_vc_operations.proofs.GrowingLemmas.{kept_on, onward_if}
use Rattle.wy_vc_operations.proofs.operations.negated.Goals as goal

pub returns-clause-made : goal.returns-clause-made
returns-clause-made c = λ v hv.
    let m = c.in_ok-number.ensures.made _ hv in
    let n = c.in_ok-opposite.ensures.made _ m.here in
    onward_if c.int.result _ _ _ _ (kept_on m.kept n.kept) (c.int.ensures.made _ n.here)
