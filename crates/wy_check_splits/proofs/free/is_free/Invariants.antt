use Rattle.std.proofs.Common.{◌≡◌, length}
use Rattle.wy_check_nodes.specs.wy_term.Nodes.{tree_at}
use Rattle.wy_check_nodes.specs.wy_facts.Seen.{AreBelow}
use Rattle.wy_check_splits.specs.Free.{stands_free}
use Rattle.wy_check_splits.specs.Walk.{any_over, free_in}
use Rattle.wy_check_splits.proofs.free.is_free.Given as goal

-- the name stands free in the term exactly where it does in what is still to be looked at
abbrev pub invariant-loop-turn : goal.invariant-loop-turn
invariant-loop-turn l = record {
  total : any_over (free_in (tree_at l.terms) l.word l.number) l.todo.keys ≡ stands_free l.word l.number (tree_at l.terms l.term);
  below : AreBelow (length l.terms) l.todo.keys;
}
