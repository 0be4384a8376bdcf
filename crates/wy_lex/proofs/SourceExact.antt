-- Sources are read exactly.
use Rattle.std.proofs.Common.{◌≡◌, ℕ, ◌==◌, Bool, true, false, true≢false, List, [], ◌∷◌, ◌⊎◌, inl, inr, refl, sym, ap, ◌∙◌, eqb-true}
use Rattle.std.specs.Bool.{⊤}
use Rattle.wy_reading.specs.Mode.{Mode}
use Rattle.wy_reading.specs.Rule.{heads, Loop, lax}
use Rattle.wy_reading.specs.Rule.Turns.{stop}
use Rattle.wy_reading.specs.Reader.{◌>>=◌, pure, while, unless, whole}
use Rattle.wy_reading.proofs.Exactness.{Sample, ExactTo, Exact, Passes, Lacks, Any, AtEnd}
use Rattle.wy_reading.proofs.Single.{nothing}
use Rattle.wy_reading.proofs.Sequence.{sequence, sequence_on}
use Rattle.wy_reading.proofs.Repetition.{repetition_on}
use Rattle.wy_reading.proofs.Bars.{unless-exact}
use Rattle.wy_reading.proofs.Theorem.{whole_text}
use Rattle.wy_lex.specs.declared.token.Token.{Token}
use Rattle.wy_lex.specs.declared.symbol.Symbol.{Symbol}
use Rattle.wy_lex.specs.declared.symbol.Character.{Character}
use Rattle.wy_lex.specs.declared.symbol.Character.TheVariants as class
use Rattle.wy_lex.specs.declared.layout.State.{State}
use Rattle.wy_lex.specs.Symbols.{has, holds, bytes_of}
use Rattle.wy_lex.specs.Layout.{may_stand, first_state, finished, passed, broken}
use Rattle.wy_lex.specs.Grammar.{R, lengthens, OtherPiece, Piece, Next, Source}
use Rattle.wy_lex.specs.Reading.{Q, piece, blanks}
use Rattle.wy_lex.proofs.CharacterLemmas.{at, at_zero, at_blank, wider, other_no_start, slash_no_start, line_end_no_start, line_end_no_part, space_no_start, tab_no_start}
use Rattle.wy_lex.proofs.PieceExact.{Follow, PieceBegun, piece-exact, blanks-exact}

-- a piece that doesn't lengthen the one before it, and pieces of this kind
abbrev pub next : Bool → State → Q State
next strict s = unless (lengthens s.more) (piece strict s)

abbrev pub careful : ℕ → Mode → Q (List Token)
careful size m = whole (blanks >>= (λ w. while (holds class.Piece) (next m.strict) (first_state (bytes_of w)) >>= (λ s. pure (finished s size))))

-- a line end lengthens nothing, or else a space does not
abbrev Clears : Character → Type 0
Clears x = (lengthens x (at_zero 10) ≡ false) ⊎ (lengthens x (at_zero 32) ≡ false)

clears : (x : Character) → Clears x
clears class.Nothing = inl refl
clears class.Any = inl refl
clears (class.Is c) = by (10 == c) refl
  where
    by : (b : Bool) → (10 == c) ≡ b → Clears (class.Is c)
    by false e = inl e
    by true e = inr (ap (λ d. 32 == d) (sym (eqb-true 10 c e)))
clears class.Blank = inl refl
clears class.LineEnd = inl refl
clears class.NoLineEnd = inl refl
clears class.Start = inl refl
clears class.Part = inl line_end_no_part
clears class.Digit = inl refl
clears class.Plain = inl refl
clears class.Inside = inl refl
clears class.Sign = inl refl
clears class.Other = inl refl
clears class.Remark = inl refl
clears class.Piece = inl refl

-- what a piece behind the words and the literals reads, a piece reads
behind_guard : (b strict : Bool) (s : State) (T : R State) (i : List Symbol) (t : State) (j : List Symbol) → T.reads i t j → (OtherPiece b strict s T).reads i t j
behind_guard true strict s T i t j h = inr h
behind_guard false strict s T i t j h = inr h

piece_begins : (n : Mode) (i : List Symbol) → PieceBegun n i → Passes (holds class.Piece) i
piece_begins n i (inl h) = wider class.Start class.Piece (λ c g. rw g refl) i h
piece_begins n i (inr (inl h)) = wider class.Other class.Piece (λ c g. rw (other_no_start c g, g) refl) i h
piece_begins n i (inr (inr (inl h))) = at 47 class.Piece i h ∙ slash_piece_begins
  where
    slash_piece_begins : has class.Piece 47 ≡ true
    slash_piece_begins = rw slash_no_start refl
piece_begins n i (inr (inr (inr (inl h)))) = at_blank class.Piece true i space_begins tab_begins h
  where
    space_begins : has class.Piece 32 ≡ true
    space_begins = rw space_no_start refl

    tab_begins : has class.Piece 9 ≡ true
    tab_begins = rw tab_no_start refl
piece_begins n i (inr (inr (inr (inr h)))) = at 10 class.Piece i h ∙ end_begins
  where
    end_begins : has class.Piece 10 ≡ true
    end_begins = rw line_end_no_start refl

module _ (n : Mode) where
  line_end : (m : Mode) (s : State) (z : List Symbol) → (Piece m.strict s).reads (at_zero 10 ∷ z) (broken s 0 []) z
  line_end m s z =
      inr (behind_guard (lax m.strict may_stand s) m.strict s _ (at_zero 10 ∷ z) (broken s 0 []) z (inr (inr (at_zero 10, z, (refl, refl), ([], z, stop refl refl, (refl, refl))))))

  space : (m : Mode) (s : State) (z : List Symbol) → (Piece m.strict s).reads (at_zero 32 ∷ z) (passed s class.Blank) z
  space m s z =
      inr (behind_guard (lax m.strict may_stand s) m.strict s _ (at_zero 32 ∷ z) (passed s class.Blank) z (inr (inl (at_zero 32, z, (refl, refl), (tt, z, stop refl refl, (refl, refl))))))

  line_sample : (s : State) → Sample n (λ m. piece m.strict s) Follow (PieceBegun n) (λ t. ⊤)
  line_sample s = record {
    text = at_zero 10 ∷ [];
    made = broken s 0 [];
    wanted = tt;
    deep = 0;
    alive = λ m le deep z f. (piece-exact m s).complete (at_zero 10 ∷ z) (broken s 0 []) z (line_end m s z) f;
    starts = λ z f. inr (inr (inr (inr refl)));
  }

  space_sample : (s : State) → Sample n (λ m. piece m.strict s) Follow (PieceBegun n) (λ t. ⊤)
  space_sample s = record {
    text = at_zero 32 ∷ [];
    made = passed s class.Blank;
    wanted = tt;
    deep = 0;
    alive = λ m le deep z f. (piece-exact m s).complete (at_zero 32 ∷ z) (passed s class.Blank) z (space m s z) f;
    starts = λ z f. inr (inr (inr (inl refl)));
  }

  no_begin : PieceBegun n [] → ⊥
  no_begin (inl h) = true≢false (sym h)
  no_begin (inr (inl h)) = true≢false (sym h)
  no_begin (inr (inr (inl h))) = true≢false (sym h)
  no_begin (inr (inr (inr (inl h)))) = true≢false (sym h)
  no_begin (inr (inr (inr (inr h)))) = true≢false (sym h)

  abbrev Begun : State → List Symbol → Type 0
  Begun s i = PieceBegun n i × Lacks (lengthens s.more) i

  next-exact : (s : State) → ExactTo n (Next n.strict s) (λ m. next m.strict s) Follow (Begun s) (λ t. ⊤)
  unfolding line_sample space_sample
  next-exact s = by (clears s.more)
    where
      by : Clears s.more → ExactTo n (Next n.strict s) (λ m. next m.strict s) Follow (Begun s) (λ t. ⊤)
      by (inl e) = unless-exact n (lengthens s.more) (Piece n.strict s) (λ m. piece m.strict s) Follow (PieceBegun n) (λ t. ⊤) (piece-exact n s) (line_sample s) (λ z f. e) (λ t. refl) no_begin
      by (inr e) = unless-exact n (lengthens s.more) (Piece n.strict s) (λ m. piece m.strict s) Follow (PieceBegun n) (λ t. ⊤) (piece-exact n s) (space_sample s) (λ z f. e) (λ t. refl) no_begin

  at_end : (test : Symbol → Bool) (i : List Symbol) → AtEnd i → Lacks test i
  at_end test i e = ap (heads test) e

  loop-exact : (s : State) → ExactTo n (Loop (Next n.strict) s) (λ m. while (holds class.Piece) (next m.strict) s) (λ t. AtEnd) (λ i. AtEnd i ⊎ Begun s i) (λ t. ⊤)
  loop-exact s =
      repetition_on {F = λ t. AtEnd} {G = Follow} {B = Begun} (holds class.Piece) next-exact (λ t i b. piece_begins n i b.0) (λ t i f. at_end (holds class.Piece) i f) (λ t i f. at_end (lengthens t.more) i f) (λ t i b. b.1) (λ t. refl) s

  pub careful-exact : (size : ℕ) → Exact n (Source size n) (λ m. careful size m) AtEnd Any
  careful-exact size =
      whole_text {F = AtEnd}
      (sequence_on (blanks-exact n) (λ w. sequence (loop-exact (first_state (bytes_of w))) (λ s. nothing (finished s size)) (λ i f. f))
      (λ w i b. elim b [ inl f ↦ at_end (holds class.Blank) i f | inr h ↦ h.1 ]))
      refl
