-- Whole numbers by sign and size.
use Rattle.std.proofs.Common.{◌≡◌, ◌<◌, ◌≤◌, ◌+◌, ◌*◌, ◌-◌, ◌^◌, ℕ, zero, suc, Bool, true, false, not, cond, ltb, ℤ, pos, negsuc, neg_ℤ, ◌+ℤ◌, ◌*ℤ◌, ◌-ℤ◌, ◌<ℤ◌, FitsSigned, of_z, ◌⊎◌, inl, inr, Option, None, refl, sym, ap, ◌∙◌, arith}
use Rattle.std.specs.Bool.{beq}
use Rattle.std.specs.Int.{w128}
use Rattle.std.proofs.lemmas.Bool.{cases_lt}
use Rattle.std.proofs.Math.Nat.{le-mul_of_pos_right}
use Rattle.std.proofs.lemmas.Int.{ints}
use Rattle.std.proofs.lemmas.Bool.Decides.{nat_tests}
use Rattle.wy_lemmas.proofs.Options.{some_number}
use Rattle.wy_term.specs.Rewriting.{fits, fitted}
use Rattle.wy_check.specs.declared.whole.Whole.{Whole}
use Rattle.wy_check.specs.Seen.{signed_number, number_of, IsFar}

abbrev no_number : Option ℤ
no_number = None

-- ---- signs

opposite : (b : Bool) (n : ℕ) → neg_ℤ (signed_number (not b) n) ≡ signed_number b n
opposite true n = refl
opposite false zero = refl
opposite false (suc n) = refl

none_left : (n : ℕ) → n * zero ≡ zero
none_left n = omega arith

none_right : (n : ℕ) → zero * n ≡ zero
none_right n = omega arith

no_sign : (b c : Bool) (n : ℕ) → n ≡ zero → signed_number b n ≡ signed_number c n
no_sign true true n e = refl
no_sign true false n e = ap (λ (x : ℕ). neg_ℤ (pos x)) e ∙ sym (ap pos e)
no_sign false true n e = ap pos e ∙ sym (ap (λ (x : ℕ). neg_ℤ (pos x)) e)
no_sign false false n e = refl

pub signed_product : (a b : Bool) (m n : ℕ) → signed_number a m *ℤ signed_number b n ≡ signed_number (not (beq a b)) (m * n)
signed_product false false m n = refl
signed_product false true m zero = no_sign false true (m * zero) (none_left m)
signed_product false true m (suc k) = refl
signed_product true false zero n = no_sign false true (zero * n) (none_right n)
signed_product true false (suc j) n = refl
signed_product true true zero zero = refl
signed_product true true zero (suc k) = no_sign true false (zero * suc k) (none_right (suc k))
signed_product true true (suc j) zero = no_sign true false (suc j * zero) (none_left (suc j))
signed_product true true (suc j) (suc k) = refl

-- ---- sums

pub same_sum : (a b : Bool) (m n : ℕ) → a ≡ b → signed_number a (m + n) ≡ signed_number a m +ℤ signed_number b n
same_sum true true m n e = omega (arith, ints)
same_sum true false m n e = absurd cc
same_sum false true m n e = absurd cc
same_sum false false m n e = refl

-- a number less a product is the number and the opposite product
pub less_is : (z c : ℤ) (a b : Bool) (s m : ℕ) → signed_number b m ≡ c → z +ℤ signed_number (beq a b) (s * m) ≡ z -ℤ signed_number a s *ℤ c
less_is z c a b s m e =
    ap (λ (x : ℤ). z +ℤ x) (sym (opposite (beq a b) (s * m)) ∙ ap neg_ℤ (sym (signed_product a b s m)))
    ∙ ap (λ (x : ℤ). z -ℤ signed_number a s *ℤ x) e

-- ---- numbers that are far

pub far_above : (z : ℤ) → pos (2 ^ 127) <ℤ z → IsFar z
far_above (pos n) lt = record { sign = false; size = n; is = refl; far = omega (arith, ints, lt) }
far_above (negsuc n) lt = absurd (omega (arith, ints, lt))

pub far_below : (z : ℤ) → z <ℤ neg_ℤ (pos (2 ^ 127)) → IsFar z
far_below (pos n) lt = absurd (omega (arith, ints, lt))
far_below (negsuc n) lt = record { sign = true; size = suc n; is = refl; far = omega (arith, ints, lt) }

pub far_sum : (a b : Bool) (m n : ℕ) → a ≡ b → 2 ^ 128 ≤ m + n → IsFar (signed_number a m +ℤ signed_number b n)
far_sum a b m n e le = record { sign = a; size = m + n; is = sym (same_sum a b m n e); far = omega (arith, le) }

-- ---- what doesn't fit

not_below : (a b : ℕ) → b ≤ a → ltb a b ≡ false
not_below a b le = grind (arith, nat_tests)

unless_fits : (z : ℤ) → fits z ≡ false → no_number ≡ fitted z
unless_fits z e = sym (ap (λ (b : Bool). cond b (some_number z) no_number) e)

pub too_large : (s : Bool) (p : ℕ) → 2 ^ 127 < p → no_number ≡ fitted (signed_number s p)
too_large false p lt = unless_fits (pos p) (not_below p (2 ^ 127) (omega (arith, lt)))
too_large true zero lt = absurd (omega (arith, lt))
too_large true (suc q) lt = unless_fits (negsuc q) (not_below q (2 ^ 127) (omega (arith, lt)))

pub far_first : (z w : ℤ) (s : Bool) (n : ℕ) → IsFar z → signed_number s n ≡ w → 0 < n → no_number ≡ fitted (z *ℤ w)
far_first z w s n is e lt =
    let bound = le-mul_of_pos_right is.size lt in
    too_large (not (beq is.sign s)) (is.size * n) (omega (arith, bound, is.far))
    ∙ ap fitted (sym (signed_product is.sign s is.size n) ∙ (ap (λ (x : ℤ). x *ℤ signed_number s n) (sym is.is) ∙ ap (λ (x : ℤ). z *ℤ x) e))

pub far_second : (z w : ℤ) (s : Bool) (n : ℕ) → IsFar z → signed_number s n ≡ w → 0 < n → no_number ≡ fitted (w *ℤ z)
far_second z w s n is e lt =
    let bound = le-mul_of_pos_right is.size lt in
    too_large (not (beq s is.sign)) (n * is.size) (omega (arith, bound, is.far))
    ∙ ap fitted (sym (signed_product s is.sign n is.size) ∙ (ap (λ (x : ℤ). signed_number s n *ℤ x) (sym is.is) ∙ ap (λ (x : ℤ). x *ℤ z) e))

-- ---- the least number of 128 bits

pub above_least : (z : ℤ) → FitsSigned w128 z → (of_z w128 z ≡ 2 ^ 127 → ⊥) → neg_ℤ (pos (2 ^ 127)) <ℤ z
above_least (pos n) fits apart = omega (arith, ints)
above_least (negsuc n) fits apart = by (cases_lt n (2 ^ 127 - 1))
  where
    by : (n < 2 ^ 127 - 1) ⊎ (2 ^ 127 - 1 ≤ n) → neg_ℤ (pos (2 ^ 127)) <ℤ negsuc n
    by (inl lt) = omega (arith, ints, lt)
    by (inr le) = absurd (apart (omega (arith, le, fits.sfits)))

-- ---- sums with a product of at least 2^128

pub far_unless_least : (z : ℤ) (b : Bool) (p : ℕ) → FitsSigned w128 z → neg_ℤ (pos (2 ^ 127)) <ℤ z → 2 ^ 128 ≤ p → IsFar (z +ℤ signed_number b p)
far_unless_least z true p fits low le = far_below (z +ℤ signed_number true p) (omega (arith, ints, low, le, fits))
far_unless_least z false p fits low le = far_above (z +ℤ signed_number false p) (omega (arith, ints, low, le))

-- ---- products of at least 2^128

pub first_above : (x y : ℕ) → 2 ^ 128 ≤ x * y → 1 ≤ x
first_above zero y le = absurd (omega (arith, le, none_right y))
first_above (suc x) y le = omega arith

pub second_above : (x y : ℕ) → 2 ^ 128 ≤ x * y → 1 ≤ y
second_above x zero le = absurd (omega (arith, le, none_left x))
second_above x (suc y) le = omega arith

pub product_before : (x y : ℕ) → 1 ≤ y → x * (y - 1) + x ≡ x * y
product_before x zero le = absurd (omega (arith, le))
product_before x (suc k) le = let one : suc k - 1 ≡ k = omega arith in ap (λ (j : ℕ). x * j + x) one ∙ omega arith

pub far_negative : (z : ℤ) (b : Bool) (p : ℕ) → FitsSigned w128 z → b ≡ true → 2 ^ 128 ≤ p → IsFar (z +ℤ signed_number b p)
far_negative z false p fits e le = absurd cc
far_negative z true p fits e le = far_below (z +ℤ signed_number true p) (omega (arith, ints, fits, le))

pub far_over : (x y : Whole) → x.negative ≡ y.negative → 2 ^ 128 ≤ x.size + y.size → IsFar (number_of x +ℤ number_of y)
far_over x y e le = far_sum x.negative y.negative x.size y.size e le
