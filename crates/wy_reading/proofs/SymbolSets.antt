-- Tests of symbols by their numbers. Each premise on tests of numbers alone is proved by `refl`.
use Rattle.std.proofs.Common.{◌≡◌, ℕ, ◌==◌, Bool, true, false, not, true≢false, List, [], ◌∷◌, ◌⊎◌, inl, inr, refl, sym, ap, ◌∙◌, eqb-true}
use Rattle.std.specs.Prelude.{if◌then◌else◌}
use Rattle.wy_lemmas.proofs.Choices.{not_true}
use Rattle.wy_reading.specs.Rule.{heads, among}
use Rattle.wy_reading.proofs.Outcomes.{if-cases}

-- ---- tests of a symbol's number

-- where the symbol's number is c, any test of the number answers as at c
pub heads-at : {S : Type 0} (sort : S → ℕ) (c : ℕ) (test : ℕ → Bool) (i : List S) → heads (λ s. sort s == c) i ≡ true → heads (λ s. test (sort s)) i ≡ test c
heads-at sort c test [] h = absurd (true≢false (sym h))
heads-at sort c test (s ∷ i) h = ap test (eqb-true (sort s) c h)

-- where a symbol passes a test that c doesn't, its number isn't c
pub heads-not : {S : Type 0} (sort : S → ℕ) (c : ℕ) (test : ℕ → Bool) (i : List S) → test c ≡ false → heads (λ s. test (sort s)) i ≡ true → heads (λ s. sort s == c) i ≡ false
heads-not sort c test [] h g = refl
heads-not sort c test (s ∷ i) h g = by (sort s == c) refl
  where
    by : (b : Bool) → (sort s == c) ≡ b → (sort s == c) ≡ false
    by false e = e
    by true e = let same = eqb-true (sort s) c e in absurd (true≢false (sym g ∙ (ap test same ∙ h)))

-- ---- sets of symbols, by their numbers; the first premise is `refl`

abbrev pub every : (ℕ → Bool) → List ℕ → Bool
every test [] = true
every test (c ∷ cs) = if test c then every test cs else false

every-at : (test : ℕ → Bool) (cs : List ℕ) (b : ℕ) → every test cs ≡ true → among cs b ≡ true → test b ≡ true
every-at test [] b h g = absurd (true≢false (sym g))
every-at test (c ∷ cs) b h g = by (λ x y. every-at test cs b x y) (if-cases (test c) _ _ _ h) (if-cases (b == c) _ _ _ g)
  where
    by : (every test cs ≡ true → among cs b ≡ true → test b ≡ true) → ((test c ≡ true) × (every test cs ≡ true)) ⊎ ((test c ≡ false) × (false ≡ true))
        → ((b == c) ≡ true) × (true ≡ true) ⊎ ((b == c) ≡ false) × (among cs b ≡ true) → test b ≡ true
    by ih (inr x) y = absurd (true≢false (sym x.1))
    by ih (inl x) (inl y) = ap test (eqb-true b c y.0) ∙ x.0
    by ih (inl x) (inr y) = ih x.1 y.1

module _ {S : Type 0} (sort : S → ℕ) where
  abbrev pub on : (ℕ → Bool) → S → Bool
  on test s = test (sort s)

  pub inside : (l : List ℕ) (test : ℕ → Bool) (i : List S) → every test l ≡ true → heads (on (among l)) i ≡ true → heads (on test) i ≡ true
  inside l test [] h g = absurd (true≢false (sym g))
  inside l test (s ∷ i) h g = every-at test l (sort s) h g

  pub outside : (l : List ℕ) (test : ℕ → Bool) (i : List S) → every (λ c. not (test c)) l ≡ true → heads (on (among l)) i ≡ true → heads (on test) i ≡ false
  outside l test [] h g = refl
  outside l test (s ∷ i) h g = not_true (test (sort s)) (every-at (λ c. not (test c)) l (sort s) h g)

  pub narrow : (l : List ℕ) (test : ℕ → Bool) (i : List S) → every test l ≡ true → heads (on test) i ≡ false → heads (on (among l)) i ≡ false
  narrow l test [] h g = refl
  narrow l test (s ∷ i) h g = by (among l (sort s)) refl
    where
      by : (b : Bool) → among l (sort s) ≡ b → among l (sort s) ≡ false
      by false e = e
      by true e = absurd (true≢false (sym (every-at test l (sort s) h e) ∙ g))
