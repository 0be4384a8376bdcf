use Rattle.std.proofs.Common.{◌≡◌, ◌++◌, All, length}
use Rattle.wy_term.specs.Nodes.{tree_at}
use Rattle.wy_term_text.specs.show.Text.{text_of}
use Rattle.wy_term_text.specs.show.TextView.{stack_text, IsPieceBelow}
use Rattle.wy_term_text.proofs.show.written.Given as goal

abbrev pub invariant-loop-turn : goal.invariant-loop-turn
invariant-loop-turn l = record {
  so_far : l.out.items ++ stack_text (tree_at l.terms) l.todo.items ≡ text_of (tree_at l.terms l.root);
  below : All (IsPieceBelow (length l.terms)) l.todo.items;
}
