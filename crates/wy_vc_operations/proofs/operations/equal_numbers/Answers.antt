use Rattle.wy_vc_operations.proofs.GrowingLemmas.{here_kept, kept_on, onward_if}
use Rattle.wy_vc_operations.proofs.operations.equal_numbers.Goals as goal

pub returns-clause-made : goal.returns-clause-made
returns-clause-made c = λ v w hv hw.
    let a = c.in_ok-a.ensures.made _ hv in
    let b = c.in_ok-b.ensures.made _ (here_kept a.kept hw) in
    let up = c.in_ok-up.ensures.made _ _ (here_kept b.kept a.here) b.here in
    let down = c.in_ok-down.ensures.made _ _ (here_kept up.kept b.here) (here_kept (kept_on b.kept up.kept) a.here) in
    let each = c.in_ok-both.ensures.made _ _ (here_kept down.kept up.here) down.here in
    onward_if c.value_of.result _ _ _ _ (kept_on a.kept (kept_on b.kept (kept_on up.kept (kept_on down.kept each.kept)))) (c.value_of.ensures.made _ each.here)
