use Rattle.std.proofs.Common.{◌≡◌, length}
use Rattle.wy_facts.specs.Seen.{AreBelow}
use Rattle.wy_check_splits.specs.Walk.{any_over}
use Rattle.wy_search_facts.proofs.equations.stands_in.Given as goal
use Rattle.wy_search_facts.specs.About.{stands_in}
use Rattle.wy_term.specs.Nodes.{tree_at}

-- the term stands in the first one exactly where it does in what is still to be looked at
abbrev pub invariant-loop-turn : goal.invariant-loop-turn
invariant-loop-turn l = record {
  total : any_over (stands_in (tree_at l.terms) (tree_at l.terms l.v)) l.todo.keys ≡ stands_in (tree_at l.terms) (tree_at l.terms l.v) l.root;
  below : AreBelow (length l.terms) l.todo.keys;
}
