use Rattle.std.proofs.Common.{◌≡◌, ◌++◌, All, length, drop}
use Rattle.wy_term.specs.Nodes.{tree_at}
use Rattle.wy_term_text.specs.show.TextView.{all_text, IsPieceBelow}
use Rattle.wy_term_text.proofs.show_lemmas.TextLemmas.{fields_behind}
use Rattle.wy_term_text.proofs.show.fields_of.Given as goal

abbrev pub invariant-loop-field : goal.invariant-loop-field
invariant-loop-field l = record {
  so_far : all_text (tree_at l._terms) l.pieces.items ++ fields_behind (tree_at l._terms) (drop l.field-index l.others) ≡ all_text (tree_at l._terms) l.initial.pieces.items ++ fields_behind (tree_at l._terms) l.others;
  below : All (IsPieceBelow (length l._terms)) l.pieces.items;
}
