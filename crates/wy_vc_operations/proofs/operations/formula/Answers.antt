use Rattle.wy_vc_operations.proofs.GrowingLemmas.{here_kept, onward_if}
use Rattle.wy_vc_operations.proofs.operations.formula.Goals as goal

pub returns-clause-made : goal.returns-clause-made
returns-clause-made c = λ v hv.
    let m = c.in_ok-truth.ensures.made in
    onward_if c.equal.result _ _ _ _ m.kept (c.equal.ensures.made _ _ (here_kept m.kept hv) m.here)
