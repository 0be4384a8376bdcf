use Rattle.std.proofs.Common.{◌≡◌, drop, map}
use Rattle.wy_facts.specs.Seen.{Stays}
use Rattle.wy_search_facts.proofs.instances.with_instances.Given as goal
use Rattle.wy_check_nodes.specs.Seen.{seen_branch, seen_literal, IsBranch}
use Rattle.wy_cong.specs.wy_search_spec.Expansion.{with_instances}
use Rattle.wy_term.specs.Nodes.{tree_at}

-- the node so far, and what is left, lead to the whole node
abbrev pub invariant-loop-atom : goal.invariant-loop-atom
invariant-loop-atom l = record {
  leads : with_instances (seen_branch (tree_at l.terms) l.branch) (map (seen_literal (tree_at l.fn.terms)) (drop l.atom-index l.atom-items)) (map (tree_at l.fn.terms) l.all) ≡ with_instances (seen_branch (tree_at l.fn.terms) l.fn.branch) (seen_branch (tree_at l.fn.terms) l.fn.branch).literals (map (tree_at l.fn.terms) l.all);
  branch : IsBranch l.terms l.branch;
  stays : Stays l.fn.terms l.terms;
}
