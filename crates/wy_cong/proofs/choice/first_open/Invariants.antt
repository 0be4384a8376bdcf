use Rattle.std.proofs.Common.{◌≡◌, drop, map}
use Rattle.wy_check_splits.specs.wy_check_nodes.Judged.{Knows}
use Rattle.wy_check_splits.specs.wy_check_nodes.Seen.{seen_branch, seen_formula}
use Rattle.wy_search_spec.specs.Splitting.{first_open}
use Rattle.wy_cong.proofs.choice.first_open.Given as goal
use Rattle.wy_term.specs.Nodes.{tree_at}

-- none so far is judged open
abbrev pub invariant-loop-i : goal.invariant-loop-i
invariant-loop-i l = record {
  known : Knows (tree_at l.terms) (seen_branch (tree_at l.terms) l.branch).literals l.known;
  left : first_open (seen_branch (tree_at l.terms) l.branch) (map (seen_formula (tree_at l.terms)) (drop l.i l.branch.pending.keys)) ≡ first_open (seen_branch (tree_at l.terms) l.branch) (seen_branch (tree_at l.terms) l.branch).pending;
}
