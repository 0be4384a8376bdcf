-- Words, literals and symbols are read exactly.
use Rattle.std.proofs.Common.{◌≡◌, ℕ, ◌==◌, Bool, true, false, cond, true≢false, List, [], ◌∷◌, ◌++◌, Option, Some, None, Err, ◌⊎◌, inl, inr, refl, sym, ap, ◌∙◌, subst, rules}
use Rattle.std.specs.Bool.{⊤}
use Rattle.wy_reading.specs.declared.stop.Stop.TheVariants.{Unexpected}
use Rattle.wy_reading.specs.Mode.{Mode, Looser}
use Rattle.wy_reading.specs.Rule.{heads, One, Pure, Then, Or, Word}
use Rattle.wy_reading.specs.Reader.{◌>>=◌, pure, one, branch, word}
use Rattle.wy_reading.proofs.Exactness.{Sample, ExactTo, Exact, Passes, Lacks, Any, AtEnd}
use Rattle.wy_reading.proofs.Single.{symbol, nothing, nothing_on, finish-exact}
use Rattle.wy_reading.proofs.Sequence.{sequence, sequence_on}
use Rattle.wy_reading.proofs.Choice.{choice}
use Rattle.wy_reading.proofs.Repetition.{repetition_before}
use Rattle.wy_reading.proofs.Checks.{checked-exact}
use Rattle.wy_reading.proofs.Words.{word-exact, word-ends}
use Rattle.wy_reading.proofs.Adapting.{adapt, same_rule, same_readers}
use Rattle.wy_lex.specs.declared.fault.Kind.{Kind}
use Rattle.wy_lex.specs.declared.fault.Kind.TheVariants.{BadEscape, BadNumeral}
use Rattle.wy_lex.specs.declared.token.TokenKind.{TokenKind}
use Rattle.wy_lex.specs.declared.token.TokenKind.TheVariants as k
use Rattle.wy_lex.specs.declared.symbol.Symbol.{Symbol}
use Rattle.wy_lex.specs.declared.symbol.Character.{Character}
use Rattle.wy_lex.specs.declared.symbol.Character.TheVariants as class
use Rattle.wy_lex.specs.declared.lexeme.Lexeme.{Lexeme}
use Rattle.wy_lex.specs.Symbols.{holds, codes_of, place}
use Rattle.wy_lex.specs.Kinds.{numeral, single, second, double, third, triple}
use Rattle.wy_lex.specs.Grammar.{R, is, lexeme, lengthens, NoPart, is_number, Numeral, Behind, meant, means, code_or_zero, Escape, UnitOf, Text, Sign, Other}
use Rattle.wy_lex.specs.Reading.{Q, numeral_lexeme, behind, escape, unit_of, inside, text, sign, other}
use Rattle.wy_lex.proofs.Judging.{begins, first_only, judged-exact}
use Rattle.wy_lex.proofs.CharacterLemmas.{at, at_zero, wider, apart, part_letter, sign_no_digit, sign_no_quote}

-- nothing that lengthens it follows
abbrev pub FollowLexeme : Lexeme → List Symbol → Type 0
FollowLexeme l = Lacks (lengthens l.more)

module _ (n : Mode) where
  -- ---- numerals

  numeral-exact : ExactTo n (Numeral n.strict) (λ m. numeral_lexeme m.strict) FollowLexeme (Passes (holds class.Digit)) (λ l. ⊤)
  unfolding numeral_lexeme
  numeral-exact =
      sequence_on
      (checked-exact n (Word (holds class.Digit) (holds class.Part)) (λ m. word (holds class.Digit) (holds class.Part)) NoPart (Passes (holds class.Digit)) (λ w. is_number w ≡ true) is_number BadNumeral
      (word-exact Kind (holds class.Digit) (holds class.Part) (at_zero 48) refl (at_zero 48) (part_letter 48 refl) n (λ w. is_number w ≡ true) (at_zero 48 ∷ []) (record { head = at_zero 48; tail = []; shape = refl; starts = refl; goes_on = tt }) refl)
      (λ a p. p) (word-ends Kind (holds class.Digit) (holds class.Part) (at_zero 48) refl (at_zero 48) (part_letter 48 refl)))
      (λ w. nothing_on (lexeme (k.Numeral (numeral (codes_of w))) (place w) class.Part)) (λ w i f. f)

  -- ---- strings

  abbrev FollowBehind : Option ℕ → List Symbol → Type 0
  FollowBehind None = AtEnd
  FollowBehind (Some c) = Any

  -- at the end of the text no symbol stands
  no_symbol : (i : List Symbol) → AtEnd i → Lacks (holds class.Any) i
  no_symbol i e = ap (heads (holds class.Any)) e

  behind-exact : ExactTo n Behind (λ m. behind) FollowBehind Any (λ v. ⊤)
  behind-exact =
      begins
      (choice (holds class.Any)
      (sequence_on {F = λ s. Any} (symbol (holds class.Any) (at_zero 97) refl) (λ c. begins {B' = Any} (nothing_on (Some c.character)) (λ i b. tt)) (λ s i b. tt))
      (sequence_on (finish-exact n) (λ x. nothing_on None) (λ x i f. f))
      (λ i h. h) no_symbol)
      (λ i b. tt)

  behind-never : (b : Symbol) (i : List Symbol) (k : ℕ) → behind i ≡ Err (Unexpected k) → ⊥
  behind-never b [] k e = absurd (cc)
  behind-never b (s ∷ i) k e = absurd (cc)

  escape-ends : (i : List Symbol) (v : Option ℕ) (j : List Symbol) → (Then (One (is 92)) (λ b. Behind)).reads i v j → means v ≡ false → FollowBehind v j
  escape-ends i v j h c = by h.3
    where
      by : Behind.reads h.1 v j → FollowBehind v j
      by (inl t) = subst (λ w. FollowBehind w j) (sym t.3.0) tt
      by (inr t) = subst (λ w. FollowBehind w j) (sym t.3.0) (sym t.3.1 ∙ t.2.1)

  escape-frees : (v : Option ℕ) → means v ≡ true → (l : List Symbol) → Any l → FollowBehind v l
  escape-frees None h l f = absurd (true≢false (sym h))
  escape-frees (Some c) h l f = tt

  escape-sample : Sample n (λ m. one (is 92) >>= (λ b. behind)) FollowBehind (Passes (is 92)) (λ v. ⊤)
  escape-sample = record { text = at_zero 92 ∷ at_zero 110 ∷ []; made = Some 110; wanted = tt; deep = 0; alive = λ m le deep z f. refl; starts = λ z f. refl }

  escape-good : (m : Mode) → Looser n m → means escape-sample.made ≡ true
  unfolding escape-sample
  escape-good m le = refl

  escape-exact : Exact n Escape (λ m. escape) Any (Passes (is 92))
  unfolding escape
  escape-exact =
      sequence_on
      (judged-exact n (Then (One (is 92)) (λ b. Behind)) (λ m. one (is 92) >>= (λ b. behind)) FollowBehind (Passes (is 92)) (λ m. means) BadEscape
      (sequence_on {F = λ s. Any} (symbol (is 92) (at_zero 92) refl) (λ b. behind-exact) (λ s i b. tt)) (λ m le a h. h) escape-sample escape-good
      (first_only n (is 92) (λ m b. behind) behind-never) escape-ends (λ v. Any) escape-frees)
      (λ e. nothing (code_or_zero (meant e))) (λ v i f. tt)

  unit-exact : Exact n UnitOf (λ m. unit_of) Any (Passes (holds class.Inside))
  unfolding unit_of
  unit-exact =
      adapt
      (choice (holds class.Plain) (sequence (symbol {F = Any} (holds class.Plain) (at_zero 97) refl) (λ c. nothing c.character) (λ i f. f)) escape-exact (λ i h. h) (λ i h. at 92 class.Plain i h))
      (λ i f. f) (λ i b. elim b [ inl h ↦ wider class.Plain class.Inside (λ c g. rw g refl) i h | inr h ↦ at 92 class.Inside i h ]) (λ a p. tt)

  text-exact : ExactTo n Text (λ m. text) FollowLexeme (Passes (is 34)) (λ l. ⊤)
  unfolding text inside
  text-exact =
      sequence_on {F = λ s. Any} (symbol (is 34) (at_zero 34) refl)
      (λ quote. sequence_on {F = λ w. Passes (is 34)}
      (repetition_before {F = Passes (is 34)} {G = Any} (holds class.Inside) (λ w. sequence unit-exact (λ c. nothing (w ++ c ∷ [])) (λ i f. f)) (λ i h. h) (λ i f. at 34 class.Inside i f) (λ i f. tt) (λ i h. tt) (at_zero 34 ∷ []) refl [])
      (λ w. sequence_on {F = λ s. Any} (symbol (is 34) (at_zero 34) refl) (λ c. nothing_on (lexeme (k.Text w) quote.at class.Nothing)) (λ s i f. tt)) (λ w i f. f))
      (λ s i b. tt)

  -- ---- symbols

  abbrev pub IsOne : Character → Type 0
  IsOne x = (x ≡ class.Nothing) ⊎ ((d : ℕ) × (x ≡ class.Is d))

  pub third-is : (c : ℕ) → IsOne (third c)
  third-is c = by (c == 61)
    where
      by : (b : Bool) → IsOne (cond b (class.Is 62) class.Nothing)
      by true = inr (62, refl)
      by false = inl refl

  pub second-is : (c : ℕ) → IsOne (second c)
  second-is c = by (c == 46) (c == 45) (c == 61) (c == 33) (c == 60) (c == 62) (c == 38) (c == 124)
    where
      by : (p q r s t u v w : Bool)
          → IsOne (cond p (class.Is 46) (cond q (class.Is 62) (cond r (class.Is 61) (cond s (class.Is 61) (cond t (class.Is 61) (cond u (class.Is 61) (cond v (class.Is 38) (cond w (class.Is 124) class.Nothing))))))))
      by true q r s t u v w = inr (46, refl)
      by false true r s t u v w = inr (62, refl)
      by false false true s t u v w = inr (61, refl)
      by false false false true t u v w = inr (61, refl)
      by false false false false true u v w = inr (61, refl)
      by false false false false false true v w = inr (61, refl)
      by false false false false false false true w = inr (38, refl)
      by false false false false false false false true = inr (124, refl)
      by false false false false false false false false = inl refl

  pub none : (i : List Symbol) → Lacks (holds class.Nothing) i
  none [] = refl
  none (s ∷ i) = refl

  same : (d : ℕ) → (d == d) ≡ true
  same d = search rules

  module _ (kind : TokenKind) (place : ℕ) (T : Symbol → R Lexeme) (p : Symbol → Q Lexeme) (parts : (s : Symbol) → ExactTo n (T s) (λ m. p s) FollowLexeme Any (λ l. ⊤)) where
    abbrev Grown : Character → Type 0
    Grown x = ExactTo n (Or (Then (One (holds x)) T) (Pure (lexeme kind place x))) (λ m. branch (holds x) (one (holds x) >>= p) (pure (lexeme kind place x))) FollowLexeme Any (λ l. ⊤)

    abbrev none_read : Mode → Q Lexeme
    none_read m = branch (holds class.Nothing) (one (holds class.Nothing) >>= p) (pure (lexeme kind place class.Nothing))

    grown-none : Grown class.Nothing
    grown-none =
        begins
        (same_rule
        (same_readers none_read (nothing_on (lexeme kind place class.Nothing)) (λ m le i. rw (none i) refl))
        (λ i a j h. inr h) (λ i a j h. elim h [ inl t ↦ absurd (true≢false (sym t.2.0)) | inr t ↦ t ])
        (λ i x k h. absurd h) (λ i x k h. elim h [ inl t ↦ elim t [ inl u ↦ absurd u | inr u ↦ absurd (true≢false (sym u.2.0)) ] | inr t ↦ absurd t ]))
        (λ i b. tt)

    grown-is : (d : ℕ) → Grown (class.Is d)
    grown-is d =
        begins
        (choice (holds (class.Is d)) (sequence_on {F = λ s. Any} (symbol (holds (class.Is d)) (at_zero d) (same d)) parts (λ s i b. tt)) (nothing_on (lexeme kind place (class.Is d))) (λ i h. h) (λ i h. h))
        (λ i b. tt)

    grown : (x : Character) → IsOne x → Grown x
    grown x (inl e) = subst Grown (sym e) grown-none
    grown x (inr d) = subst Grown (sym d.1) (grown-is d.0)

  sign-exact : ExactTo n Sign (λ m. sign) FollowLexeme (Passes (holds class.Sign)) (λ l. ⊤)
  unfolding sign
  sign-exact =
      sequence_on {F = λ s. Any} (symbol (holds class.Sign) (at_zero 40) refl)
      (λ c. grown (single c.character) c.at _ _
      (λ d. grown (double c.character) c.at _ _ (λ e. begins {B' = Any} (nothing_on (lexeme triple c.at class.Nothing)) (λ i b. tt)) (third c.character) (third-is c.character))
      (second c.character) (second-is c.character))
      (λ s i b. tt)

  -- ---- literals and symbols

  abbrev OtherBegun : List Symbol → Type 0
  OtherBegun i = Passes (holds class.Digit) i ⊎ (Passes (is 34) i ⊎ Passes (holds class.Sign) i)

  other_begins : (i : List Symbol) → OtherBegun i → Passes (holds class.Other) i
  other_begins i (inl h) = wider class.Digit class.Other (λ c g. rw g refl) i h
  other_begins i (inr (inl h)) = at 34 class.Other i h
  other_begins i (inr (inr h)) = wider class.Sign class.Other (λ c g. rw (sign_no_digit c g, sign_no_quote c g, g) refl) i h

  pub other-exact : ExactTo n (Other n.strict) (λ m. other m.strict) FollowLexeme (Passes (holds class.Other)) (λ l. ⊤)
  unfolding other
  other-exact =
      begins
      (choice (holds class.Digit) numeral-exact
      (choice (is 34) text-exact sign-exact (λ i h. h) (λ i h. apart class.Sign (class.Is 34) sign_no_quote i h))
      (λ i h. h) (λ i b. elim b [ inl h ↦ at 34 class.Digit i h | inr h ↦ apart class.Sign class.Digit sign_no_digit i h ]))
      other_begins
