use Rattle.wy_vc_operations.proofs.GrowingLemmas.{here_kept, kept_on, onward_if}
use Rattle.wy_vc_operations.proofs.operations.quantified.Goals as goal

pub returns-clause-made : goal.returns-clause-made
returns-clause-made c = λ v w u hv hw hu.
    let a = c.in_ok-first.ensures.made _ hv in
    let b = c.in_ok-last.ensures.made _ (here_kept a.kept hw) in
    let f = c.in_ok-holds.ensures.made _ (here_kept (kept_on a.kept b.kept) hu) in
    let m = c.in_ok-bound.ensures.made _ _ _ (here_kept (kept_on b.kept f.kept) a.here) (here_kept f.kept b.here) f.here in
    onward_if c.value_of.result _ _ _ _ (kept_on a.kept (kept_on b.kept (kept_on f.kept m.kept))) (c.value_of.ensures.made _ m.here)
