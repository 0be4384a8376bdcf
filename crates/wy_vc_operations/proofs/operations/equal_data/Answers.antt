use Rattle.wy_vc_operations.proofs.GrowingLemmas.{onward_if}
use Rattle.wy_vc_operations.proofs.operations.equal_data.Goals as goal

pub returns-clause-made : goal.returns-clause-made
returns-clause-made c = λ v w hv hw.
    let m = c.in_ok-equal.ensures.made _ _ hv hw in
    onward_if c.value_of.result _ _ _ _ m.kept (c.value_of.ensures.made _ m.here)
