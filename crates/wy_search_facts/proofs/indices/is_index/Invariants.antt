use Rattle.std.proofs.Common.{◌≡◌, length}
use Rattle.wy_facts.specs.Seen.{AreBelow}
use Rattle.wy_search_facts.proofs.indices.is_index.Given as goal
use Rattle.wy_search_facts.specs.Indices.{indexes, indexes_in}
use Rattle.wy_check_nodes.specs.Seen.{seen_branch}
use Rattle.wy_cong.specs.wy_search_spec.Expansion.{everything}
use Rattle.wy_check_splits.specs.Walk.{any_over}
use Rattle.wy_term.specs.Nodes.{tree_at}

-- the term is an index in the node exactly where it is one in what is still to be looked at
abbrev pub invariant-loop-turn : goal.invariant-loop-turn
invariant-loop-turn l = record {
  total : any_over (indexes (tree_at l.terms) (tree_at l.terms l.t)) l.todo.keys ≡ indexes_in (tree_at l.terms l.t) (everything (seen_branch (tree_at l.terms) l.branch));
  below : AreBelow (length l.terms) l.todo.keys;
}
