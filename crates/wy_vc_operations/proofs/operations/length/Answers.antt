use Rattle.wy_vc_operations.proofs.GrowingLemmas.{onward_if}
use Rattle.wy_vc_operations.proofs.operations.length.Goals as goal

pub returns-clause-made : goal.returns-clause-made
returns-clause-made c = λ v hv.
    let m = c.in_ok-length.ensures.made _ hv in
    onward_if c.int.result _ _ _ _ m.kept (c.int.ensures.made _ m.here)
