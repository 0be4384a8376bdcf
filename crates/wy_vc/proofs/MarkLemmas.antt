-- Marks of numbers.
use Rattle.std.proofs.Common.{◌≡◌, ◌<◌, ◌≤◌, ◌⊎◌, inl, inr, ℕ, zero, suc, ◌+◌, Bool, true, false, List, [], ◌∷◌, ◌++◌, length, slice_set, slice_index_or, refl, ◌∙◌, ap, arith}
use Rattle.std.specs.Prelude.{nat_le}
use Rattle.std.proofs.lemmas.Bool.{both_ways, cases_lt, le-leb, leb-true}
use Rattle.wy_vc.specs.Mentioned.{marked}

pub index_marked : (bs : List Bool) (n : ℕ) → slice_index_or bs n false ≡ marked bs n
index_marked [] n = refl
index_marked (b ∷ bs) zero = refl
index_marked (b ∷ bs) (suc n) = index_marked bs n

pub set_length : (bs : List Bool) (x : ℕ) (b : Bool) → length (slice_set bs x b) ≡ length bs
set_length [] x b = refl
set_length (c ∷ bs) zero b = refl
set_length (c ∷ bs) (suc x) b = ap (λ (n : ℕ). suc n) (set_length bs x b)

pub set_here : (bs : List Bool) (x : ℕ) → x < length bs → marked (slice_set bs x true) x ≡ true
set_here [] x lt = absurd (omega (arith, lt))
set_here (c ∷ bs) zero lt = refl
set_here (c ∷ bs) (suc x) lt = set_here bs x (omega (arith, lt))

pub set_keeps : (bs : List Bool) (x n : ℕ) → marked bs n ≡ true → marked (slice_set bs x true) n ≡ true
set_keeps [] x n h = h
set_keeps (c ∷ bs) zero zero h = refl
set_keeps (c ∷ bs) zero (suc n) h = h
set_keeps (c ∷ bs) (suc x) zero h = h
set_keeps (c ∷ bs) (suc x) (suc n) h = set_keeps bs x n h

pub set_only : (bs : List Bool) (x n : ℕ) → marked (slice_set bs x true) n ≡ true → (x ≡ n) ⊎ (marked bs n ≡ true)
set_only [] x n h = inr h
set_only (c ∷ bs) zero zero h = inl refl
set_only (c ∷ bs) zero (suc n) h = inr h
set_only (c ∷ bs) (suc x) zero h = inr h
set_only (c ∷ bs) (suc x) (suc n) h = elim (set_only bs x n h) as (λ _. (suc x ≡ suc n) ⊎ (marked bs n ≡ true)) [ inl e ↦ inl (ap (λ (m : ℕ). suc m) e) | inr g ↦ inr g ]

-- one mark more that is none changes nothing
pub push_none : (bs : List Bool) → ((n : ℕ) → marked bs n ≡ false) → (n : ℕ) → marked (bs ++ false ∷ []) n ≡ false
push_none [] none zero = refl
push_none [] none (suc n) = refl
push_none (b ∷ bs) none zero = none 0
push_none (b ∷ bs) none (suc n) = push_none bs (λ m. none (suc m)) n

pushed_length : (bs : List Bool) → length (bs ++ false ∷ []) ≡ length bs + 1
pushed_length [] = refl
pushed_length (b ∷ bs) = let r = pushed_length bs in omega (arith, r)

pub none_pushed : (bs new : List Bool) (k : ℕ) → new ≡ bs ++ false ∷ [] → (length bs ≡ k) × ((n : ℕ) → marked bs n ≡ false) → (length new ≡ k + 1) × ((n : ℕ) → marked new n ≡ false)
none_pushed bs new k is inv = (
  ap (λ (l : List Bool). length l) is ∙ pushed_length bs ∙ ap (λ (j : ℕ). j + 1) inv.0,
  λ n. ap (λ (l : List Bool). marked l n) is ∙ push_none bs inv.1 n,
)

-- a number that isn't past the marks is below their count
pub not_past : (a b : ℕ) → nat_le a b ≡ false → b < a
not_past a b e = elim (cases_lt b a) as (λ _. b < a) [ inl lt ↦ lt | inr past ↦ absurd (both_ways (nat_le a b) e (le-leb a b past)) ]

pub is_past : (a b : ℕ) → nat_le a b ≡ true → a ≤ b
is_past a b e = leb-true a b e
