-- Spaces, numbers, words and names are read exactly.
use Rattle.std.proofs.Common.{◌≡◌, ℕ, ◌≤◌, ℤ, true, false, true≢false, List, [], ◌∷◌, length, Ok, ◌⊎◌, inl, inr, refl, sym, subst, rules}
use Rattle.std.specs.Str.{encode_utf8_all}
use Rattle.wy_reading.specs.Mode.{Mode}
use Rattle.wy_reading.specs.Rule.{heads, Only, Word}
use Rattle.wy_reading.specs.Reader.{Outcome, and_then, ◌>>=◌, pure, one}
use Rattle.wy_reading.proofs.Exactness.{Exact, ExactTo, Passes, Lacks}
use Rattle.wy_reading.proofs.Outcomes.{and_then-ok, ok-parts, if-cases}
use Rattle.wy_reading.proofs.Single.{nothing, symbol}
use Rattle.wy_reading.proofs.Sequence.{sequence}
use Rattle.wy_reading.proofs.Choice.{choice}
use Rattle.wy_reading.proofs.Checks.{checked-exact}
use Rattle.wy_reading.proofs.Words.{spelled-exact, skip-exact, word-exact, word-ends, name-exact, name-ends}
use Rattle.wy_reading.proofs.Adapting.{adapt, mapped}
use Rattle.wy_value.specs.declared.character.Character.TheVariants as c
use Rattle.wy_value.specs.declared.fault.Kind.{Kind}
use Rattle.wy_value.specs.declared.fault.Kind.TheVariants.{Range, Twice}
use Rattle.wy_value.specs.declared.value.Value.{Value}
use Rattle.wy_value.specs.declared.value.Value.TheVariants as value
use Rattle.wy_value.specs.Characters.{has}
use Rattle.wy_value.specs.Numbers.{plain, negated, is_int}
use Rattle.wy_value.specs.Grammar.{eq, Spaces, Mark, Digits, Number, NoDigit, Int, Literal, Flat, Entry, may_name, is_new, NoPart, NewName}
use Rattle.wy_value.specs.Reading.{spaces, mark, digits, number, int, literal, flat, name, new_name}
use Rattle.wy_value.proofs.CharacterLemmas.{at, other, wider, start_letter, part_letter}
use Rattle.wy_value.proofs.NameLemmas.{enough, long_name, longest, long_new}

module _ (n : Mode) where
  -- ---- spaces

  pub spaces-exact : (F : List ℕ → Type 0) → ((i : List ℕ) → F i → Lacks (has c.Space) i) → F [] → Exact n Spaces (λ m. spaces) F (λ i. F i ⊎ Passes (has c.Space) i)
  unfolding spaces
  spaces-exact F halts empty = skip-exact (has c.Space) 32 refl halts empty

  pub mark-exact : (d : ℕ) → has (c.Is d) d ≡ true → Exact n (Mark d) (λ m. mark d) (Lacks (has c.Space)) (Passes (has (c.Is d)))
  unfolding mark
  mark-exact d good = sequence (symbol (has (c.Is d)) d good) (λ r. spaces-exact (Lacks (has c.Space)) (λ i f. f) refl) (λ i f. f)

  -- ---- numbers

  abbrev Zero : List ℕ → Type 0
  Zero ds = ds ≡ 48 ∷ []

  digits-exact : ExactTo n Digits (λ m. digits) (λ ds. NoDigit) (Passes (has c.Digit)) Zero
  unfolding digits
  digits-exact = word-exact Kind (has c.Digit) (has c.Digit) 48 refl 48 refl n Zero (48 ∷ []) (record { head = 48; tail = []; shape = refl; starts = refl; goes_on = tt }) refl

  abbrev Good : ℤ → Type 0
  Good z = is_int z ≡ true

  abbrev NumberBegins : List ℕ → Type 0
  NumberBegins i = Passes (has c.Digit) i ⊎ Passes (has (c.Is 45)) i

  number-exact : ExactTo n Number (λ m. number) (λ z. NoDigit) NumberBegins Good
  unfolding number
  number-exact =
      choice (has c.Digit) (mapped plain digits-exact (λ a p. rw p refl))
      (sequence (symbol (has (c.Is 45)) 45 refl) (λ r. mapped negated digits-exact (λ a p. rw p refl)) (λ i f. f))
      (λ i h. h) (λ i h. at 45 c.Digit i h)

  digits-end : (i ds j : List ℕ) → digits i ≡ Ok (ds, j) → NoDigit j
  unfolding digits
  digits-end i ds j e = word-ends Kind (has c.Digit) (has c.Digit) 48 refl 48 refl i ds j e

  abbrev Either : Outcome ℕ Kind ℤ → Outcome ℕ Kind ℤ → List ℕ → Outcome ℕ Kind ℤ → Type 0
  Either a b i r = ((heads (has c.Digit) i ≡ true) × (a ≡ r)) ⊎ ((heads (has c.Digit) i ≡ false) × (b ≡ r))

  number-ends : (i : List ℕ) (z : ℤ) (j : List ℕ) → number i ≡ Ok (z, j) → NoDigit j
  unfolding number
  number-ends i z j e = by (if-cases (heads (has c.Digit) i) _ _ _ e)
    where
      by : Either (and_then (digits i) (λ ds. pure (plain ds))) (and_then (one (has (c.Is 45)) i) (λ s. digits >>= (λ ds. pure (negated ds)))) i (Ok (z, j)) → NoDigit j
      by (inl d) =
          let y = and_then-ok (digits i) (λ ds. pure (plain ds)) (z, j) d.1 in
          subst NoDigit (ok-parts (plain y.0.0) z y.0.1 j y.2).1 (digits-end i y.0.0 y.0.1 y.1)
      by (inr d) =
          let x = and_then-ok (one (has (c.Is 45)) i) (λ s. digits >>= (λ ds. pure (negated ds))) (z, j) d.1 in
          let y = and_then-ok (digits x.0.1) (λ ds. pure (negated ds)) (z, j) x.2 in
          subst NoDigit (ok-parts (negated y.0.0) z y.0.1 j y.2).1 (digits-end x.0.1 y.0.0 y.0.1 y.1)

  int-exact : ExactTo n (Int n.strict) (λ m. int m.strict) (λ z. NoDigit) NumberBegins Good
  unfolding int
  int-exact = checked-exact n Number (λ m. number) NoDigit NumberBegins Good is_int Range number-exact (λ a p. p) number-ends

  -- ---- words

  literal-exact : (d : ℕ) (text : List ℕ) (v : Value) → Exact n (Literal (d ∷ text) v) (λ m. literal (d ∷ text) v) NoDigit (Passes (eq d))
  unfolding literal
  literal-exact d text v = sequence (spelled-exact Kind n eq (λ s. same s) NoDigit (d ∷ text)) (λ r. nothing v) (λ i f. f)
    where
      same : (s : ℕ) → eq s s ≡ true
      same s = search rules

  -- the first symbol of a word, tested the other way round
  turned : (d : ℕ) (i : List ℕ) → Passes (eq d) i → Passes (has (c.Is d)) i
  turned d [] h = absurd (true≢false (sym h))
  turned d (b ∷ i) h = search (rules, h)

  word-exact_of : (d : ℕ) (text : List ℕ) (v : Value) → Exact n (Literal (d ∷ text) v) (λ m. literal (d ∷ text) v) NoDigit (Passes (has (c.Is d)))
  word-exact_of d text v = adapt (literal-exact d text v) (λ i f. f) (turned d) (λ a p. tt)

  -- ---- values without brackets

  digit_begins : (d : ℕ) → has c.Digit d ≡ true → has c.Value d ≡ true
  digit_begins d h = rw h refl

  digit_begins_number : (d : ℕ) → has c.Digit d ≡ true → has c.Number d ≡ true
  digit_begins_number d h = rw h refl

  abbrev pub FlatBegins : List ℕ → Type 0
  FlatBegins i = Passes (has c.Value) i × Lacks (has c.Open) i

  digit_no_open : (i : List ℕ) → Passes (has c.Digit) i → Lacks (has c.Open) i
  digit_no_open [] h = refl
  digit_no_open (b ∷ i) h = rw (other 91 c.Digit (b ∷ i) refl h, other 123 c.Digit (b ∷ i) refl h) refl

  flat_begins : (i : List ℕ) → NumberBegins i ⊎ (Passes (has (c.Is 110)) i ⊎ (Passes (has (c.Is 116)) i ⊎ Passes (has (c.Is 102)) i)) → FlatBegins i
  flat_begins i (inl (inl h)) = (wider c.Digit c.Value digit_begins i h, digit_no_open i h)
  flat_begins i (inl (inr h)) = (at 45 c.Value i h, at 45 c.Open i h)
  flat_begins i (inr (inl h)) = (at 110 c.Value i h, at 110 c.Open i h)
  flat_begins i (inr (inr (inl h))) = (at 116 c.Value i h, at 116 c.Open i h)
  flat_begins i (inr (inr (inr h))) = (at 102 c.Value i h, at 102 c.Open i h)

  pub flat-exact : Exact n (Flat n.strict) (λ m. flat m.strict) NoDigit FlatBegins
  unfolding flat
  flat-exact =
      adapt
      (choice (has c.Number) (sequence int-exact (λ z. nothing (value.Int z)) (λ i f. f))
      (choice (has (c.Is 110)) (word-exact_of 110 _ value.Null)
      (choice (has (c.Is 116)) (word-exact_of 116 _ (value.Bool true)) (word-exact_of 102 _ (value.Bool false))
      (λ i h. h) (λ i h. at 102 (c.Is 116) i h))
      (λ i h. h) (λ i b. elim b [ inl h ↦ at 116 (c.Is 110) i h | inr h ↦ at 102 (c.Is 110) i h ]))
      (λ i b. elim b [ inl h ↦ wider c.Digit c.Number digit_begins_number i h | inr h ↦ at 45 c.Number i h ])
      (λ i b. elim b [ inl h ↦ at 110 c.Number i h | inr d ↦ elim d [ inl h ↦ at 116 c.Number i h | inr h ↦ at 102 c.Number i h ] ]))
      (λ i f. f) flat_begins (λ a p. p)

  -- ---- names

  pub name-exact_new : (fs : List Entry) → Exact n (NewName n.strict fs) (λ m. new_name m.strict fs) NoPart (Passes (has c.Start))
  unfolding new_name name
  name-exact_new fs =
      sequence
      (adapt
      (checked-exact n (Only may_name (Word (has c.Start) (has c.Part))) (λ m. name) NoPart (Passes (has c.Start)) (λ w. longest fs ≤ length w) (is_new fs) Twice
      (name-exact Kind (has c.Start) (has c.Part) 97 start_letter 97 part_letter n may_name enough long_name (longest fs)) (long_new fs)
      (name-ends Kind (has c.Start) (has c.Part) 97 start_letter 97 part_letter n may_name enough long_name (longest fs)))
      (λ i f. f) (λ i h. h) (λ a p. p))
      (λ w. nothing (encode_utf8_all w)) (λ i f. f)
