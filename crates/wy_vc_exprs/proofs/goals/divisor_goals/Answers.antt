use Rattle.wy_vc_exprs.proofs.NumberedLemmas.{kept_then}
use Rattle.wy_vc_exprs.proofs.MakingLemmas.{makes_one, below_one}
use Rattle.wy_vc_exprs.proofs.goals.divisor_goals.Goals as goal
use Rattle.wy_vc_operations.proofs.GrowingLemmas.{here_kept}

pub returns-clause-within : goal.returns-clause-within
returns-clause-within c = below_one _ _ _ c.in_ok-from_slice.ensures.items (c.in_ok-goal.ensures.within)

pub returns-clause-made : goal.returns-clause-made
returns-clause-made c = λ t ht.
    let n = c.in_ok-number.ensures.made _ ht in
    let z = c.in_ok-zero.ensures.made in
    let a = c.in_ok-above.ensures.made _ _ z.here (here_kept z.kept n.here) in
    let b = c.in_ok-below.ensures.made _ _ (here_kept (kept_then z.kept a.kept) n.here) (here_kept a.kept z.here) in
    let e = c.in_ok-goal.ensures.made _ _ (here_kept b.kept a.here) b.here in
    makes_one _ c.in_ok-from_slice.ensures.items (kept_then n.kept (kept_then z.kept (kept_then a.kept (kept_then b.kept e.kept)))) e.here
