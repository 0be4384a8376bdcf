-- The quotient of two whole numbers by their sizes.
use Rattle.std.proofs.Common.{◌≡◌, ◌≢◌, ◌<◌, ◌+◌, ◌*◌, ◌/◌, ◌%◌, ℕ, zero, suc, Bool, true, false, not, cond, ◌&&◌, ℤ, pos, negsuc, neg_ℤ, ◌*ℤ◌, Option, None, refl, sym, ap, ◌∙◌, arith}
use Rattle.std.specs.Bool.{beq}
use Rattle.std.specs.Ordering.{int_eq}
use Rattle.std.proofs.Math.Dec.{eqb-suc-zero}
use Rattle.std.proofs.lemmas.Bool.Decides.{Decides-int_eq}
use Rattle.std.proofs.lemmas.Nat.{div-add-mod', same_from_place}
use Rattle.wy_facts.specs.Schema.{only_if}
use Rattle.wy_lemmas.proofs.Options.{some_ratio}
use Rattle.wy_term.specs.Data.{quotient_down, quotient}
use Rattle.wy_vc_laws.specs.wy_check_spec.valid.Products.{ratio}
use Rattle.wy_check.proofs.DivisorLemmas.{divisor_from, quotient_before}
use Rattle.wy_check.specs.Seen.{signed_number}
use Rattle.wy_check.proofs.WholeLemmas.{signed_product}

abbrev no_ratio : Option ℤ
no_ratio = None

-- ---- tests

equal : (a b : ℤ) → a ≡ b → int_eq a b ≡ true
equal a b e = (Decides-int_eq a b).1 e

unequal : (a b : ℤ) → a ≢ b → int_eq a b ≡ false
unequal a b e = by (int_eq a b) refl
  where
    by : (t : Bool) → int_eq a b ≡ t → t ≡ false
    by false is = refl
    by true is = absurd (e ((Decides-int_eq a b).0 is))

-- ---- by the quotient

pub ratio_by : (q r x : ℤ) → quotient r q ≡ x → x *ℤ q ≡ r → x ≢ pos 0 → some_ratio x ≡ ratio q r
ratio_by q r x is whole apart =
    sym (ap (λ (y : ℤ). only_if (int_eq (y *ℤ q) r && not (int_eq y (pos 0))) (some_ratio y)) is
    ∙ (ap (λ (b : Bool). only_if (b && not (int_eq x (pos 0))) (some_ratio x)) (equal (x *ℤ q) r whole)
    ∙ ap (λ (b : Bool). only_if (not b) (some_ratio x)) (unequal x (pos 0) apart)))

pub ratio_not : (q r x : ℤ) → quotient r q ≡ x → x *ℤ q ≢ r → no_ratio ≡ ratio q r
ratio_not q r x is apart =
    sym (ap (λ (y : ℤ). only_if (int_eq (y *ℤ q) r && not (int_eq y (pos 0))) (some_ratio y)) is
    ∙ ap (λ (b : Bool). only_if (b && not (int_eq x (pos 0))) (some_ratio x)) (unequal (x *ℤ q) r apart))

-- ---- the quotient

-- by how much the size of a quotient of a negative number is above that of the number before
abbrev quotient_size : Bool → ℕ → ℕ → ℕ
quotient_size false j k = suc j / suc k
quotient_size true j k = suc (j / suc k)

quotient_by : (r : ℤ) (b : Bool) (k : ℕ) → quotient r (signed_number b (suc k)) ≡ cond b (neg_ℤ (quotient_down r (suc k))) (quotient_down r (suc k))
quotient_by r false k = ap (λ (t : Bool). cond t (pos 0) (quotient_down r (suc k))) (eqb-suc-zero k)
quotient_by r true k = let one : k + 1 ≡ suc k = omega arith in ap (λ (m : ℕ). neg_ℤ (quotient_down r m)) one

pub quotient_is : (b c : Bool) (j k : ℕ) → quotient (signed_number c (suc j)) (signed_number b (suc k)) ≡ signed_number (not (beq b c)) (quotient_size c j k)
quotient_is false false j k = quotient_by (pos (suc j)) false k
quotient_is false true j k = quotient_by (negsuc j) false k
quotient_is true false j k = quotient_by (pos (suc j)) true k
quotient_is true true j k = quotient_by (negsuc j) true k

same_size : (c : Bool) (j k : ℕ) → suc j % suc k ≡ 0 → quotient_size c j k ≡ suc j / suc k
same_size false j k e = refl
same_size true j k e =
    let one = quotient_before j (suc k) (omega arith) e in
    let other = div-add-mod' (suc j) (suc k) in
    equal_factors (suc (j / suc k)) (suc j / suc k) k (omega (arith, one, other, e))
  where
    equal_factors : (x y k : ℕ) → x * suc k ≡ y * suc k → x ≡ y
    equal_factors x y k h = (same_from_place x 0 y 0 (suc k) (omega arith) (omega arith) (omega (arith, h))).0

-- ---- products of signs and sizes

signs : (b c : Bool) → not (beq (not (beq b c)) b) ≡ c
signs true true = refl
signs true false = refl
signs false true = refl
signs false false = refl

whole_is : (b c : Bool) (x k : ℕ) → signed_number (not (beq b c)) x *ℤ signed_number b (suc k) ≡ signed_number c (x * suc k)
whole_is b c x k = signed_product (not (beq b c)) b x (suc k) ∙ ap (λ (s : Bool). signed_number s (x * suc k)) (signs b c)

sizes_are : (c : Bool) (m n : ℕ) → signed_number c m ≡ signed_number c n → m ≡ n
sizes_are false m n e = cc
sizes_are true zero zero e = refl
sizes_are true zero (suc n) e = absurd cc
sizes_are true (suc m) zero e = absurd cc
sizes_are true (suc m) (suc n) e = let same : m ≡ n = cc in ap suc same

not_zero : (c : Bool) (n : ℕ) → 0 < n → signed_number c n ≢ pos 0
not_zero false n lt e = let none : n ≡ 0 = cc in absurd (omega (arith, none, lt))
not_zero true zero lt e = absurd (omega (arith, lt))
not_zero true (suc n) lt e = absurd cc

-- ---- the ratio

pub ratio_there : (q r : ℤ) (b c : Bool) (m n : ℕ) → signed_number b m ≡ q → signed_number c n ≡ r → 0 < m → 0 < n → n % m ≡ 0 → some_ratio (signed_number (not (beq b c)) (n / m)) ≡ ratio q r
ratio_there q r b c zero n is that lm ln e = absurd (omega (arith, lm))
ratio_there q r b c (suc k) zero is that lm ln e = absurd (omega (arith, ln))
ratio_there q r b c (suc k) (suc j) is that lm ln e =
    let size = same_size c j k e in
    let other = div-add-mod' (suc j) (suc k) in
    let exact : suc j / suc k * suc k ≡ suc j = omega (arith, other, e) in
    ratio_by (signed_number b (suc k)) (signed_number c (suc j)) (signed_number (not (beq b c)) (suc j / suc k))
    (quotient_is b c j k ∙ ap (signed_number (not (beq b c))) size)
    (whole_is b c (suc j / suc k) k ∙ ap (signed_number c) exact)
    (not_zero (not (beq b c)) (suc j / suc k) (above (suc j / suc k) exact))
    ∙ (ap (λ (x : ℤ). ratio x (signed_number c (suc j))) is ∙ ap (ratio q) that)
  where
    above : (x : ℕ) → x * suc k ≡ suc j → 0 < x
    above zero h = absurd (omega (arith, h))
    above (suc x) h = omega arith

pub ratio_left : (q r : ℤ) (b c : Bool) (m n : ℕ) → signed_number b m ≡ q → signed_number c n ≡ r → 0 < m → 0 < n → (n % m ≡ 0 → ⊥) → no_ratio ≡ ratio q r
ratio_left q r b c zero n is that lm ln e = absurd (omega (arith, lm))
ratio_left q r b c (suc k) zero is that lm ln e = absurd (omega (arith, ln))
ratio_left q r b c (suc k) (suc j) is that lm ln e =
    ratio_not (signed_number b (suc k)) (signed_number c (suc j)) (signed_number (not (beq b c)) (quotient_size c j k)) (quotient_is b c j k)
    (λ h. e (divisor_from (suc j) (suc k) (quotient_size c j k) (omega arith) (sizes_are c (quotient_size c j k * suc k) (suc j) (sym (whole_is b c (quotient_size c j k) k) ∙ h))))
    ∙ (ap (λ (x : ℤ). ratio x (signed_number c (suc j))) is ∙ ap (ratio q) that)
