use Rattle.std.proofs.Common.{◌≡◌, drop, map}
use Rattle.wy_facts.specs.Seen.{Stays}
use Rattle.wy_search_facts.proofs.instances.with_instances_of.Given as goal
use Rattle.wy_check_nodes.specs.Seen.{seen_branch, IsBranch}
use Rattle.wy_check_splits.specs.Seen.{seen_range}
use Rattle.wy_cong.specs.wy_search_spec.Expansion.{with_instances_of}
use Rattle.wy_term.specs.Nodes.{tree_at}

-- the node so far, and what is left, lead to the whole node
abbrev pub invariant-loop-t : goal.invariant-loop-t
invariant-loop-t l = record {
  leads : with_instances_of (seen_branch (tree_at l.terms) l.branch) l.holds (seen_range (tree_at l.fn.terms) l.r) (map (tree_at l.fn.terms) (drop l.t-index l.all)) ≡ with_instances_of (seen_branch (tree_at l.fn.terms) l.fn.branch) l.holds (seen_range (tree_at l.fn.terms) l.r) (map (tree_at l.fn.terms) l.all);
  branch : IsBranch l.terms l.branch;
  stays : Stays l.fn.terms l.terms;
}
