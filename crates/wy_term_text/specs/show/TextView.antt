-- What the pieces of a text that is still to be written spell, where `at` gives the term of a number.
use Rattle.std.specs.Prelude.{ℕ, ◌<◌, List, [], ◌∷◌, ◌++◌, All, map, codes, string_bytes}
use Rattle.wy_term_text.specs.declared.show.Piece.{Piece}
use Rattle.wy_term_text.specs.declared.show.Piece.TheVariants as piece
use Rattle.wy_term.specs.Term.{Term}
use Rattle.wy_term.specs.Nodes.{parts_at}
use Rattle.wy_term_text.specs.show.Text.{separated, labelled, text_of, texts_of}

abbrev pub piece_text : (ℕ → Term) → Piece → List ℕ
piece_text at (piece.Word word) = word.now
piece_text at (piece.Text text) = string_bytes text
piece_text at (piece.Term t) = text_of (at t)
piece_text at (piece.Terms sep parts) = separated sep.now (texts_of (parts_at at parts.items))
piece_text at (piece.Fields fields) = separated (codes ", ") (labelled (map (λ p. p.0) fields.items) (texts_of (parts_at at (map (λ p. p.1) fields.items))))

-- one after the other
abbrev pub all_text : (ℕ → Term) → List Piece → List ℕ
all_text at [] = []
all_text at (p ∷ []) = piece_text at p
all_text at (p ∷ q ∷ ps) = piece_text at p ++ all_text at (q ∷ ps)

-- from the last one to the first
abbrev pub stack_text : (ℕ → Term) → List Piece → List ℕ
stack_text at [] = []
stack_text at (p ∷ ps) = stack_text at ps ++ piece_text at p

-- the numbers in a piece are below a bound
abbrev pub IsPieceBelow : ℕ → Piece → Type 0
IsPieceBelow n (piece.Word word) = Unit {0}
IsPieceBelow n (piece.Text text) = Unit {0}
IsPieceBelow n (piece.Term t) = t < n
IsPieceBelow n (piece.Terms sep parts) = All (λ k. k < n) parts.items
IsPieceBelow n (piece.Fields fields) = All (λ k. k < n) (map (λ p. p.1) fields.items)
