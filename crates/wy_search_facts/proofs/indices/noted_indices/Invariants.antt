use Rattle.std.proofs.Common.{length, nat_eq}
use Rattle.std.specs.HashSet.{contains}
use Rattle.wy_facts.specs.Seen.{AreBelow}
use Rattle.wy_search_facts.proofs.indices.noted_indices.Given as goal
use Rattle.wy_search_facts.specs.Indices.{WillBeNoted}
use Rattle.wy_check_nodes.specs.Seen.{seen_branch}
use Rattle.wy_cong.specs.wy_search_spec.Expansion.{everything}
use Rattle.wy_term.specs.Nodes.{tree_at}

-- each term that is an index is noted, or is one in what is still to be looked at
abbrev pub invariant-loop-turn : goal.invariant-loop-turn
invariant-loop-turn l = record {
  told : WillBeNoted (tree_at l.terms) (length l.terms) (contains nat_eq l.noted) l.todo.keys (everything (seen_branch (tree_at l.terms) l.branch));
  below : AreBelow (length l.terms) l.todo.keys;
}
