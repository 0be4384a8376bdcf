use Rattle.wy_vc_operations.proofs.GrowingLemmas.{here_kept, onward_if}
use Rattle.wy_vc_operations.proofs.operations.updated.Goals as goal

pub returns-clause-made : goal.returns-clause-made
returns-clause-made c = λ v i w hv hi hw.
    let m = c.in_ok-number.ensures.made _ hi in
    onward_if c.update.result _ _ _ _ m.kept (c.update.ensures.made _ _ _ (here_kept m.kept hv) m.here (here_kept m.kept hw))
