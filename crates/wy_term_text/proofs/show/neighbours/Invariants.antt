use Rattle.std.proofs.Common.{◌≡◌, ◌++◌, All, length, drop}
use Rattle.wy_term.specs.Nodes.{tree_at}
use Rattle.wy_term_text.specs.show.TextView.{all_text, IsPieceBelow}
use Rattle.wy_term_text.proofs.show_lemmas.TextLemmas.{terms_behind}
use Rattle.wy_term_text.proofs.show.neighbours.Given as goal

abbrev pub invariant-loop-part : goal.invariant-loop-part
invariant-loop-part l = record {
  so_far : all_text (tree_at l._terms) l.pieces.items ++ terms_behind (tree_at l._terms) l.sep (drop l.part-index l.others) ≡ all_text (tree_at l._terms) l.initial.pieces.items ++ terms_behind (tree_at l._terms) l.sep l.others;
  below : All (IsPieceBelow (length l._terms)) l.pieces.items;
}
