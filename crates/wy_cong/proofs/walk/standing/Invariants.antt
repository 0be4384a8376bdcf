use Rattle.std.proofs.Common.{◌≡◌, drop, map}
use Rattle.wy_check_splits.specs.wy_check_nodes.Seen.{seen_branch, seen_formula, IsBranch}
use Rattle.wy_search_spec.specs.Standing.{standing}
use Rattle.wy_cong.proofs.walk.standing.Given as goal
use Rattle.wy_cong.specs.Once.{once}
use Rattle.wy_term.specs.Nodes.{tree_at}

-- what is put and what is left come to all that stands in the node
abbrev pub invariant-loop-i : goal.invariant-loop-i
invariant-loop-i l = record {
  left : once (seen_branch (tree_at l.terms) l.made).pending (map (seen_formula (tree_at l.terms)) (drop l.i l.found.keys.items)) ≡ standing (seen_branch (tree_at l.terms) l.branch);
  branch : IsBranch l.terms l.made;
}
