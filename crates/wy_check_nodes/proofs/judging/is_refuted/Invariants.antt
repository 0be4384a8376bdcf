use Rattle.std.proofs.Common.{◌≡◌, drop, map}
use Rattle.wy_check_spec.specs.wy_term.Nodes.{tree_at}
use Rattle.wy_check_nodes.specs.Seen.{seen_branch, seen_formula}
use Rattle.wy_check_nodes.specs.Judged.{Knows, is_any_refuted}
use Rattle.wy_check_nodes.proofs.judging.is_refuted.Given as goal

-- none so far is judged no
abbrev pub invariant-loop-i : goal.invariant-loop-i
invariant-loop-i l = record {
  known : Knows (tree_at l.terms) (seen_branch (tree_at l.terms) l.branch).literals l.known;
  left : is_any_refuted (seen_branch (tree_at l.terms) l.branch).literals (map (seen_formula (tree_at l.terms)) (drop l.i l.branch.pending.keys)) ≡ is_any_refuted (seen_branch (tree_at l.terms) l.branch).literals (seen_branch (tree_at l.terms) l.branch).pending;
}
