use Rattle.wy_vc_operations.proofs.GrowingLemmas.{here_kept, onward_if}
use Rattle.wy_vc_operations.proofs.operations.index.Goals as goal

pub returns-clause-made : goal.returns-clause-made
returns-clause-made c = λ v i hv hi.
    let m = c.in_ok-number.ensures.made _ hi in
    onward_if c.get.result _ _ _ _ m.kept (c.get.ensures.made _ _ (here_kept m.kept hv) m.here)
