-- Tests of numbers by the semantics and by terms, and both divisions.
use Rattle.std.proofs.Common.{◌≡◌, ℕ, zero, suc, ◌+◌, ◌-◌, ◌*◌, ◌/◌, ◌%◌, ◌<◌, true, false, not, ◌&&◌, ◌||◌, eqb, ◌==◌, ℤ, pos, negsuc, neg_ℤ, ◌+ℤ◌, ◌-ℤ◌, ◌*ℤ◌, ◌≤ℤ◌, ◌<ℤ◌, int_lt, int_le, refl, sym, ap, subst, ◌∙◌, arith, mod-lt}
use Rattle.std.specs.Int.{int_div_euclid, int_rem_euclid}
use Rattle.std.specs.Ordering.{int_eq}
use Rattle.std.proofs.lemmas.Int.{ints}
use Rattle.std.proofs.lemmas.Nat.{mod_below}
use Rattle.std.proofs.Math.Nat.{div-add-mod}
use Rattle.wy_lemmas.proofs.Numbers.{positive}
use Rattle.wy_term_subst.proofs.wy_term_proofs.SharedLemmas.{unless_zero}
use Rattle.wy_term_subst.specs.wy_term.Data.{quotient, quotient_down, remainder}
use Rattle.wy_term_subst.specs.wy_term.Meaning as meaning
use Rattle.wy_vc_spec.specs.wy_sem.Operations.{same_number}

pub at_most_is : (a b : ℤ) → meaning.at_most a b ≡ int_le a b
at_most_is a b = grind (arith, ints)

pub below_is : (a b : ℤ) → not (meaning.at_most b a) ≡ int_lt a b
below_is a b = grind (arith, ints)

-- a divisor is above 0 or below
pub apart_is : (y : ℤ) → (int_lt (pos 0) y || (int_lt y (pos 0) || false)) ≡ not (same_number y (pos 0))
apart_is y = grind (arith, ints)

pub nonzero : (y : ℤ) → not (same_number y (pos 0)) ≡ true → y ≡ pos 0 → ⊥
nonzero y e is = absurd (both (subst (λ (z : ℤ). not (same_number z (pos 0)) ≡ true) is e)) where
  both : false ≡ true → ⊥
  both q = absurd cc

-- ---- divisions

no_zero : (m : ℕ) → (pos m ≡ pos 0 → ⊥) → (m == 0) ≡ false
no_zero zero h = absurd (h refl)
no_zero (suc m) h = grind arith

down_is : (a : ℤ) (m : ℕ) → quotient_down a m ≡ int_div_euclid a (pos m)
down_is (pos n) m = refl
down_is (negsuc n) m = refl

opposite_is : (a : ℤ) (m : ℕ) → neg_ℤ (quotient_down a (m + 1)) ≡ int_div_euclid a (negsuc m)
opposite_is (pos n) m = let e : m + 1 ≡ suc m = omega arith in ap (λ (k : ℕ). neg_ℤ (pos (n / k))) e
opposite_is (negsuc n) m = let e : m + 1 ≡ suc m = omega arith in ap (λ (k : ℕ). pos (suc (n / k))) e

pub quotient_is : (a b : ℤ) → (b ≡ pos 0 → ⊥) → quotient a b ≡ int_div_euclid a b
quotient_is a (pos m) h = unless_zero a m (m == 0) (no_zero m h) ∙ down_is a m
quotient_is a (negsuc m) h = opposite_is a m

-- what is left of a number, by the size of the divisor
rest_of : (n m : ℕ) → 0 < m → pos n -ℤ pos m *ℤ pos (n / m) ≡ pos (n % m)
rest_of n m h =
    let whole = div-add-mod n m in
    let product : pos m *ℤ pos (n / m) ≡ pos (m * (n / m)) = refl in
    omega (arith, ints, whole, product)

rest_below : (n m : ℕ) → 0 < m → negsuc n -ℤ pos m *ℤ negsuc (n / m) ≡ pos (m - 1 - n % m)
rest_below n m h =
    let whole = div-add-mod n m in
    let low = mod_below n m h in
    let product : pos m *ℤ negsuc (n / m) ≡ neg_ℤ (pos (m * suc (n / m))) = refl in
    let more : m * suc (n / m) ≡ m * (n / m) + m = omega arith in
    omega (arith, ints, whole, low, product, more)

-- a number times its opposite is that of both opposites
turned : (m : ℕ) (q : ℤ) → negsuc m *ℤ neg_ℤ q ≡ pos (suc m) *ℤ q
turned m (pos zero) = let none : suc m * 0 ≡ 0 = omega arith in omega (arith, ints, none)
turned m (pos (suc n)) = refl
turned m (negsuc n) = refl

pub remainder_is : (a b : ℤ) → (b ≡ pos 0 → ⊥) → remainder a b ≡ int_rem_euclid a b
remainder_is (pos n) (pos m) h = ap (λ (q : ℤ). pos n -ℤ pos m *ℤ q) (quotient_is (pos n) (pos m) h) ∙ rest_of n m (positive m h)
remainder_is (negsuc n) (pos m) h = ap (λ (q : ℤ). negsuc n -ℤ pos m *ℤ q) (quotient_is (negsuc n) (pos m) h) ∙ rest_below n m (positive m h)
remainder_is (pos n) (negsuc m) h =
    ap (λ (q : ℤ). pos n -ℤ negsuc m *ℤ q) (quotient_is (pos n) (negsuc m) h)
    ∙ ap (λ (p : ℤ). pos n -ℤ p) (turned m (pos (n / suc m))) ∙ rest_of n (suc m) (omega arith)
remainder_is (negsuc n) (negsuc m) h =
    ap (λ (q : ℤ). negsuc n -ℤ negsuc m *ℤ q) (quotient_is (negsuc n) (negsuc m) h)
    ∙ ap (λ (p : ℤ). negsuc n -ℤ p) (turned m (negsuc (n / suc m))) ∙ rest_below n (suc m) (omega arith)

pub same_number_is : (x y : ℤ) → int_eq x y ≡ same_number x y
same_number_is x y = grind (arith, ints)
