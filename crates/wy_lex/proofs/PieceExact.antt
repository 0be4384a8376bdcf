-- Pieces of a source are read exactly.
use Rattle.std.proofs.Common.{◌≡◌, ℕ, Bool, true, false, cond, ◌||◌, true≢false, List, [], ◌∷◌, ◌++◌, length, Err, ◌⊎◌, inl, inr, refl, sym, ap, ◌∙◌, subst}
use Rattle.std.specs.Bool.{⊤}
use Rattle.wy_lemmas.proofs.Choices.{or_true as or-true}
use Rattle.wy_reading.specs.declared.stop.Stop.TheVariants.{Fault}
use Rattle.wy_reading.specs.Mode.{Mode, Looser}
use Rattle.wy_reading.specs.Rule.{One, Or, Word, Checked, lax}
use Rattle.wy_reading.specs.Reader.{◌>>=◌, pure, one, branch, word}
use Rattle.wy_reading.proofs.Exactness.{ExactTo, Exact, Passes, Lacks, Any}
use Rattle.wy_reading.proofs.Single.{symbol, nothing, nothing_on}
use Rattle.wy_reading.proofs.Sequence.{sequence, sequence_on}
use Rattle.wy_reading.proofs.Choice.{choice}
use Rattle.wy_reading.proofs.Repetition.{repetition}
use Rattle.wy_reading.proofs.Checks.{checked-exact, lax-looser, lax-good}
use Rattle.wy_reading.proofs.Words.{word-exact, word-ends, skip-exact}
use Rattle.wy_reading.proofs.Adapting.{same_readers}
use Rattle.wy_lex.specs.declared.fault.Kind.{Kind}
use Rattle.wy_lex.specs.declared.fault.Kind.TheVariants.{BadIndent, OpenComment}
use Rattle.wy_lex.specs.declared.token.TokenKind.{TokenKind}
use Rattle.wy_lex.specs.declared.token.TokenKind.TheVariants as k
use Rattle.wy_lex.specs.declared.symbol.Symbol.{Symbol}
use Rattle.wy_lex.specs.declared.symbol.Character.{Character}
use Rattle.wy_lex.specs.declared.symbol.Character.TheVariants as class
use Rattle.wy_lex.specs.declared.comment.Solidus.{Solidus}
use Rattle.wy_lex.specs.declared.comment.Solidus.TheVariants as solidus
use Rattle.wy_lex.specs.declared.layout.State.{State}
use Rattle.wy_lex.specs.Symbols.{has, holds, bytes_of, place}
use Rattle.wy_lex.specs.Kinds.{word_kind, continues}
use Rattle.wy_lex.specs.Layout.{may_stand, is_within, begun, added, placed, broken, passed}
use Rattle.wy_lex.specs.Grammar.{R, is, lengthens, stands, NoPart, WordPiece, placed_at, OtherPiece, Stroke, is_closed, may_be, struck, SlashPiece, Blanks, Gap, Break, Piece}
use Rattle.wy_lex.specs.Reading.{Q, word_piece, other, other_piece, slash, slash_piece, blanks, gap, break_piece, piece}
use Rattle.wy_lex.proofs.Judging.{begins, judged-exact, barrier-exact}
use Rattle.wy_lex.proofs.CharacterLemmas.{at, at_zero, at_blank, apart, other_no_start, slash_no_start, space_no_start, tab_no_start, line_end_no_start, start_letter, part_letter}
use Rattle.wy_lex.proofs.CommentExact.{FollowSlash, StrokeIs, stroke-is, slash-exact, slash-first, slash-sample}
use Rattle.wy_lex.proofs.CommentExact.StrokeIs.{line, block, open_comment, sign}
use Rattle.wy_lex.proofs.LexemeExact.{other-exact}

-- nothing that lengthens the last piece follows
abbrev pub Follow : State → List Symbol → Type 0
Follow s = Lacks (lengthens s.more)

pub placed-more : (s : State) (kind : TokenKind) (at_token : ℕ) (more : Character) → (placed s kind at_token more).more ≡ more
placed-more s kind at_token more = by (is_within s.line || continues kind)
  where
    by : (b : Bool) → (let t : State = cond b (added s kind at_token more) (added (begun s at_token) kind at_token more) in t.more) ≡ more
    by true = refl
    by false = refl

-- `where`, which continues a line
abbrev a_word : List Symbol
a_word = at_zero 119 ∷ at_zero 104 ∷ at_zero 101 ∷ at_zero 114 ∷ at_zero 101 ∷ []

continues_word : continues (word_kind (bytes_of a_word)) ≡ true
unfolding word_kind lib.Utf8.encode
continues_word = refl

module _ (n : Mode) where
  -- ---- words

  word_stands : (s : State) → stands s a_word ≡ true
  word_stands s = ap (λ b. may_stand s || b) continues_word ∙ or-true (may_stand s)

  word-piece-exact : (s : State) → ExactTo n (WordPiece n.strict s) (λ m. word_piece m.strict s) Follow (Passes (holds class.Start)) (λ t. ⊤)
  unfolding word_piece
  word-piece-exact s =
      sequence_on
      (checked-exact n (Word (holds class.Start) (holds class.Part)) (λ m. word (holds class.Start) (holds class.Part)) NoPart (Passes (holds class.Start)) (λ w. stands s w ≡ true) (stands s) BadIndent
      (word-exact Kind (holds class.Start) (holds class.Part) (at_zero 119) start_letter (at_zero 119) (part_letter 119 refl) n (λ w. stands s w ≡ true) a_word
      (record { head = at_zero 119; tail = at_zero 104 ∷ at_zero 101 ∷ at_zero 114 ∷ at_zero 101 ∷ []; shape = refl; starts = start_letter; goes_on = (part_letter 104 refl, (part_letter 101 refl, (part_letter 114 refl, (part_letter 101 refl, tt)))) }) (word_stands s))
      (λ a p. p) (word-ends Kind (holds class.Start) (holds class.Part) (at_zero 119) start_letter (at_zero 119) (part_letter 119 refl)))
      (λ w. nothing_on (placed s (word_kind (bytes_of w)) (place w) class.Part))
      (λ w i f. subst (λ x. Lacks (lengthens x) i) (placed-more s (word_kind (bytes_of w)) (place w) class.Part) f)

  -- ---- a slash

  abbrev check : State → Mode → Solidus × ℕ → Bool
  check s m = lax m.strict (may_be s)

  slash-ends : (s : State) (i : List Symbol) (v : Solidus × ℕ) (j : List Symbol) → Stroke.reads i v j × (is_closed v ≡ true) → check s n v ≡ false → FollowSlash v j
  slash-ends s i v j h c = by (stroke-is i v j h.0)
    where
      passes : (u : Solidus × ℕ) → v ≡ u → may_be s u ≡ true → FollowSlash v j
      passes u e g = absurd (true≢false (sym (lax-good n.strict (may_be s) v (ap (may_be s) e ∙ g)) ∙ c))

      by : StrokeIs v j → FollowSlash v j
      by (line a e) = passes (solidus.Line, a) e refl
      by (block a e) = passes (solidus.Block, a) e refl
      by (open_comment a e g) = passes (solidus.Open, a) e refl
      by (sign a e g) = subst (λ w. FollowSlash w j) (sym e) g

  slash-good : (s : State) (m : Mode) → Looser n m → check s m ((slash-sample n).made) ≡ true
  slash-good s m le = lax-good m.strict (may_be s) (solidus.Block, 0) refl

  slash-link : (s : State) (v : Solidus × ℕ) (i : List Symbol) → Follow (struck s v) i → FollowSlash v i
  slash-link s (solidus.Sign, a) i f = subst (λ x. Lacks (lengthens x) i) (placed-more s k.Slash a class.Remark) f
  slash-link s (solidus.Line, a) i f = f
  slash-link s (solidus.Block, a) i f = tt
  slash-link s (solidus.Open, a) i f = tt

  slash-piece-exact : (s : State) → ExactTo n (SlashPiece n.strict s) (λ m. slash_piece m.strict s) Follow (Passes (is 47)) (λ t. ⊤)
  unfolding slash_piece
  slash-piece-exact s =
      sequence_on
      (judged-exact n (Checked (λ i. Unit {0}) is_closed OpenComment Stroke) (λ m. slash) FollowSlash (Passes (is 47)) (check s) BadIndent (slash-exact n)
      (λ m le a h. lax-looser n.strict m.strict (may_be s) a le.1 h) (slash-sample n) (slash-good s) (slash-first n) (slash-ends s) FollowSlash (λ v h l f. f))
      (λ v. nothing_on (struck s v)) (slash-link s)

  -- ---- blanks and line ends

  blank : ExactTo {X = Kind} n (One (holds class.Blank)) (λ m. one (holds class.Blank)) (λ s. Any) (Passes (holds class.Blank)) (λ b. ⊤)
  blank = symbol (holds class.Blank) (at_zero 32) refl

  pub blanks-exact : Exact n Blanks (λ m. blanks) (Lacks (holds class.Blank)) Any
  unfolding blanks
  blanks-exact =
      begins
      (repetition {F = Lacks (holds class.Blank)} {G = Any} (holds class.Blank) (λ w. sequence (symbol {F = Any} (holds class.Blank) (at_zero 32) refl) (λ c. nothing (w ++ c ∷ [])) (λ i f. f)) (λ i h. h) (λ i f. f) (λ i f. tt) (λ i h. tt) refl [])
      (λ i b. tt)

  gap-exact : (s : State) → ExactTo n (Gap s) (λ m. gap s) Follow (Passes (holds class.Blank)) (λ t. ⊤)
  unfolding gap
  gap-exact s =
      sequence_on blank
      (λ b. sequence_on {F = λ x. Lacks (holds class.Blank)} (skip-exact (holds class.Blank) (at_zero 32) refl (λ i f. f) refl) (λ x. nothing_on (passed s class.Blank)) (λ x i f. f)) (λ b i f. tt)

  break-exact : (s : State) → ExactTo n (Break s) (λ m. break_piece s) Follow (Passes (holds class.LineEnd)) (λ t. ⊤)
  unfolding break_piece
  break-exact s =
      sequence_on {F = λ e. Any} (symbol (holds class.LineEnd) (at_zero 10) refl)
      (λ e. sequence_on {F = λ w. Lacks (holds class.Blank)} blanks-exact (λ w. nothing_on (broken s e.at (bytes_of w))) (λ w i f. f)) (λ e i f. tt)

  -- ---- pieces

  abbrev pub Rest : State → R State
  Rest s = Or (SlashPiece n.strict s) (Or (Gap s) (Break s))

  abbrev pub rest : State → Mode → Q State
  rest s m = branch (is 47) (slash_piece m.strict s) (branch (holds class.Blank) (gap s) (break_piece s))

  abbrev pub RestBegun : List Symbol → Type 0
  RestBegun i = Passes (is 47) i ⊎ (Passes (holds class.Blank) i ⊎ Passes (holds class.LineEnd) i)

  rest-exact : (s : State) → ExactTo n (Rest s) (rest s) Follow RestBegun (λ t. ⊤)
  rest-exact s =
      choice (is 47) (slash-piece-exact s)
      (choice (holds class.Blank) (gap-exact s) (break-exact s) (λ i h. h) (λ i h. at 10 class.Blank i h))
      (λ i h. h) (λ i b. elim b [ inl h ↦ at_blank (class.Is 47) false i refl refl h | inr h ↦ at 10 (class.Is 47) i h ])

  rest-lacks : (x : Character) → has x 47 ≡ false → has x 32 ≡ false → has x 9 ≡ false → has x 10 ≡ false → (i : List Symbol) → RestBegun i → Lacks (holds x) i
  rest-lacks x a b c d i (inl h) = at 47 x i h ∙ a
  rest-lacks x a b c d i (inr (inl h)) = at_blank x false i b c h
  rest-lacks x a b c d i (inr (inr h)) = at 10 x i h ∙ d

  abbrev pub OtherBegun : List Symbol → Type 0
  OtherBegun i = Passes (holds class.Other) i ⊎ RestBegun i

  abbrev guarded : State → Mode → Q State
  guarded s m = other_piece (lax m.strict may_stand s) m.strict s (rest s m)

  abbrev free : State → Mode → Q State
  free s m = branch (holds class.Other) (other m.strict >>= (λ l. pure (placed_at s l))) (rest s m)

  reads-free : (s : State) (m : Mode) (i : List Symbol) → lax m.strict may_stand s ≡ true → guarded s m i ≡ free s m i
  unfolding other_piece
  reads-free s m i h = rw h refl

  falls : (s : State) (m : Mode) (i : List Symbol) → Lacks (holds class.Other) i → guarded s m i ≡ rest s m i
  unfolding other_piece
  falls s m i h = by (lax m.strict may_stand s)
    where
      by : (b : Bool) → other_piece b m.strict s (rest s m) i ≡ rest s m i
      by true = rw h refl
      by false = rw h refl

  refuses : (s : State) (i : List Symbol) → lax n.strict may_stand s ≡ false → Passes (holds class.Other) i → guarded s n i ≡ Err (Fault BadIndent (length i))
  unfolding other_piece
  refuses s i e h = rw e (rw h refl)

  guarded-exact : (s : State) → ExactTo n (OtherPiece (lax n.strict may_stand s) n.strict s (Rest s)) (guarded s) Follow OtherBegun (λ t. ⊤)
  guarded-exact s = by (lax n.strict may_stand s) refl
    where
      by : (b : Bool) → lax n.strict may_stand s ≡ b → ExactTo n (OtherPiece b n.strict s (Rest s)) (guarded s) Follow OtherBegun (λ t. ⊤)
      by true e =
          same_readers (guarded s)
          (choice (holds class.Other)
          (sequence_on (other-exact n) (λ l. nothing_on (placed_at s l)) (λ l i f. subst (λ x. Lacks (lengthens x) i) (placed-more s l.kind l.at l.more) f)) (rest-exact s)
          (λ i h. h) (rest-lacks class.Other refl refl refl refl))
          (λ m le i. reads-free s m i (lax-looser n.strict m.strict may_stand s le.1 e))
      by false e =
          barrier-exact n (holds class.Other) BadIndent (Rest s) (rest s) (guarded s) Follow RestBegun (rest-exact s) (rest-lacks class.Other refl refl refl refl) (falls s) (λ i h. refuses s i e h)

  abbrev pub PieceBegun : List Symbol → Type 0
  PieceBegun i = Passes (holds class.Start) i ⊎ OtherBegun i

  no_start : (i : List Symbol) → OtherBegun i → Lacks (holds class.Start) i
  no_start i (inl h) = apart class.Other class.Start other_no_start i h
  no_start i (inr h) = rest-lacks class.Start slash_no_start space_no_start tab_no_start line_end_no_start i h

  pub piece-exact : (s : State) → ExactTo n (Piece n.strict s) (λ m. piece m.strict s) Follow PieceBegun (λ t. ⊤)
  unfolding piece
  piece-exact s = choice (holds class.Start) (word-piece-exact s) (guarded-exact s) (λ i h. h) no_start
