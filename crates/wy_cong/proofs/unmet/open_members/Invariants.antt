use Rattle.std.proofs.Common.{◌<◌, length}
use Rattle.wy_cong.proofs.unmet.open_members.Given as goal
use Rattle.wy_cong.specs.Unmet.{IsSelfOrOpen}
use Rattle.wy_check_splits.specs.wy_check_nodes.Judged.{Knows}
use Rattle.wy_check_splits.specs.wy_check_nodes.Seen.{seen_branch}
use Rattle.wy_term.specs.Nodes.{parts_at, tree_at}

-- it is the formula itself, or an open member
abbrev pub invariant-loop-i : goal.invariant-loop-i
invariant-loop-i l = record {
  known : Knows (tree_at l.terms) (seen_branch (tree_at l.terms) l.branch).literals l.known;
  one : IsSelfOrOpen (seen_branch (tree_at l.terms) l.branch).literals (tree_at l.terms l.f) (parts_at (tree_at l.terms) l.members) (tree_at l.terms l.one);
  below : l.one < length l.terms;
}
