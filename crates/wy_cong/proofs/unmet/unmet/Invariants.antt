use Rattle.std.proofs.Common.{drop, length}
use Rattle.wy_cong.proofs.UnmetLemmas.{SoFar}
use Rattle.wy_cong.proofs.unmet.unmet.Given as goal
use Rattle.wy_cong.specs.Reached.{AreWithin}
use Rattle.wy_check_splits.specs.wy_check_nodes.Judged.{Knows}
use Rattle.wy_check_splits.specs.wy_check_nodes.Seen.{seen_branch}
use Rattle.wy_term.specs.Nodes.{tree_at}

-- what is left, and behind it what comes, is enough
abbrev pub invariant-loop-i : goal.invariant-loop-i
invariant-loop-i l = record {
  known : Knows (tree_at l.terms) (seen_branch (tree_at l.terms) l.branch).literals l.known;
  so : SoFar (tree_at l.terms) (seen_branch (tree_at l.terms) l.branch).literals (seen_branch (tree_at l.terms) l.branch).pending l.left.items (drop l.i l.branch.pending.keys);
  within : AreWithin (length l.terms) l.left.items;
}
