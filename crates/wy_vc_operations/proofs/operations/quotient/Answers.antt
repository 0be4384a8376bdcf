use Rattle.wy_vc_operations.proofs.GrowingLemmas.{here_kept, kept_on, onward_if}
use Rattle.wy_vc_operations.proofs.operations.quotient.Goals as goal

pub returns-clause-made : goal.returns-clause-made
returns-clause-made c = λ v w hv hw.
    let a = c.in_ok-a.ensures.made _ hv in
    let b = c.in_ok-b.ensures.made _ (here_kept a.kept hw) in
    let m = c.in_ok-number.ensures.made _ _ (here_kept b.kept a.here) b.here in
    onward_if c.int.result _ _ _ _ (kept_on a.kept (kept_on b.kept m.kept)) (c.int.ensures.made _ m.here)
