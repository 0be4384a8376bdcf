use Rattle.std.proofs.Common.{drop}
use Rattle.wy_cong.proofs.NearestLemmas.{SoFar}
use Rattle.wy_cong.proofs.choice.first_forced.Given as goal
use Rattle.wy_cong.specs.Once.{SameBranch}
use Rattle.wy_check_splits.specs.wy_check_nodes.Seen.{IsBranch, seen_branch}
use Rattle.wy_term.specs.Nodes.{tree_at}

-- of what was looked at, none forces an atom before the place, and the one at the place is forced
abbrev pub invariant-loop-i : goal.invariant-loop-i
invariant-loop-i l = record {
  so : SoFar (tree_at l.terms) (seen_branch (tree_at l.terms) l.fn.branch) l.found.list.items (drop l.i l.left) l.place;
  same : SameBranch l.fn.branch l.branch;
  branch : IsBranch l.terms l.branch;
}
