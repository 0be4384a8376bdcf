use Rattle.std.proofs.Common.{arith}
use Rattle.wy_vc_exprs.proofs.NumberedLemmas.{kept_then}
use Rattle.wy_vc_exprs.proofs.MakingLemmas.{makes_two, below_two}
use Rattle.wy_vc_exprs.proofs.goals.range_goals.Goals as goal
use Rattle.wy_vc_operations.proofs.GrowingLemmas.{here_kept}

pub returns-clause-within : goal.returns-clause-within
returns-clause-within c = below_two _ _ _ _ c.in_ok-from_slice.ensures.items (omega (arith, c.in_ok-above.ensures.within, c.in_ok-greatest.ensures.grows, c.in_ok-below.ensures.grows)) (omega (arith, c.in_ok-below.ensures.within))

pub returns-clause-made : goal.returns-clause-made
returns-clause-made c = λ t ht.
    let n = c.in_ok-number.ensures.made _ ht in
    let l = c.in_ok-least.ensures.made in
    let a = c.in_ok-above.ensures.made _ _ l.here (here_kept l.kept n.here) in
    let g = c.in_ok-greatest.ensures.made in
    let b = c.in_ok-below.ensures.made _ _ (here_kept (kept_then l.kept (kept_then a.kept g.kept)) n.here) g.here in
    makes_two _ c.in_ok-from_slice.ensures.items (kept_then n.kept (kept_then l.kept (kept_then a.kept (kept_then g.kept b.kept)))) (here_kept (kept_then g.kept b.kept) a.here) b.here
