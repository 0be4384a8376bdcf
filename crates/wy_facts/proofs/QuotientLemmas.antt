-- Quotients and remainders.
use Rattle.std.proofs.Common.{◌≡◌, ◌<◌, ◌+◌, ◌/◌, ℕ, zero, suc, false, eqb, ℤ, pos, negsuc, ◌+ℤ◌, ◌-ℤ◌, ◌*ℤ◌, ◌≤ℤ◌, ◌<ℤ◌, neg_ℤ, refl, sym, ap, subst, ◌∙◌, arith}
use Rattle.std.proofs.lemmas.Int.{ints}
use Rattle.std.proofs.lemmas.Nat.{mod_below}
use Rattle.std.proofs.Math.Nat.{div-add-mod}
use Rattle.std.proofs.Math.IntN.{*ℤ-zero, *ℤ_comm}
use Rattle.wy_term_subst.proofs.wy_lemmas_proofs.Numbers.{positive, opposite, one_times, pos_times, distrib_left}
use Rattle.wy_term_subst.proofs.wy_term_proofs.SharedLemmas.{unless_zero}
use Rattle.wy_term_subst.specs.wy_term.Data.{quotient_down, remainder}

-- the remainder of a division by b lies from 0 on below the size of b
pub record Divides (a b : ℤ) : Type 0 where
  pub natural : pos 0 ≤ℤ remainder a b
  pub below : pos 0 <ℤ b → remainder a b <ℤ b
  pub above : b <ℤ pos 0 → remainder a b <ℤ neg_ℤ b

pub times_opposite : (x y : ℤ) → x *ℤ neg_ℤ y ≡ neg_ℤ (x *ℤ y)
times_opposite x y =
    let none : y +ℤ neg_ℤ y ≡ pos 0 = omega (arith, ints) in
    let whole : x *ℤ (y +ℤ neg_ℤ y) ≡ pos 0 = ap (λ (z : ℤ). x *ℤ z) none ∙ *ℤ-zero x in
    let apart = distrib_left x y (neg_ℤ y) in
    omega (arith, ints, whole, apart)

-- what is left of a number once the multiple below it is taken away
rest_down : (a : ℤ) (m : ℕ) → 0 < m → (pos 0 ≤ℤ (a -ℤ pos m *ℤ quotient_down a m)) × ((a -ℤ pos m *ℤ quotient_down a m) <ℤ pos m)
rest_down (pos n) m h =
    let whole = div-add-mod n m in
    let low = mod_below n m h in
    let product = pos_times m (n / m) in
    (omega (arith, ints, whole, low, product), omega (arith, ints, whole, low, product))
rest_down (negsuc n) m h =
    let whole = div-add-mod n m in
    let low = mod_below n m h in
    let product = pos_times m (n / m) in
    let more : pos m *ℤ pos (n / m + 1) ≡ pos m *ℤ pos (n / m) +ℤ pos m = one_more m (n / m) in
    let down : pos m *ℤ negsuc (n / m) ≡ neg_ℤ (pos m *ℤ pos (n / m + 1)) = ap (λ (z : ℤ). pos m *ℤ z) (opposite (n / m)) ∙ times_opposite (pos m) (pos (n / m + 1)) in
    (omega (arith, ints, whole, low, product, more, down), omega (arith, ints, whole, low, product, more, down))
  where
    one_more : (m k : ℕ) → pos m *ℤ pos (k + 1) ≡ pos m *ℤ pos k +ℤ pos m
    one_more m k =
        let split : pos (k + 1) ≡ pos k +ℤ pos 1 = omega (arith, ints) in
        let one : pos m *ℤ pos 1 ≡ pos m = *ℤ_comm (pos m) (pos 1) ∙ one_times (pos m) in
        ap (λ (z : ℤ). pos m *ℤ z) split ∙ distrib_left (pos m) (pos k) (pos 1) ∙ ap (λ (z : ℤ). pos m *ℤ pos k +ℤ z) one

nonzero : (m : ℕ) → (pos m ≡ pos 0 → ⊥) → eqb m 0 ≡ false
nonzero zero h = absurd (h refl)
nonzero (suc m) h = grind arith

not_below : (m : ℕ) → pos m <ℤ pos 0 → ⊥
not_below m h = omega (arith, ints, h)

not_above : (m : ℕ) → pos 0 <ℤ negsuc m → ⊥
not_above m h = omega (arith, ints, h)

-- two opposites are multiplied
times_down : (m : ℕ) (q : ℤ) → negsuc m *ℤ neg_ℤ q ≡ pos (m + 1) *ℤ q
times_down m q =
    let turn : negsuc m *ℤ neg_ℤ q ≡ neg_ℤ (negsuc m *ℤ q) = times_opposite (negsuc m) q in
    let other : negsuc m *ℤ q ≡ neg_ℤ (pos (m + 1) *ℤ q) = *ℤ_comm (negsuc m) q ∙ ap (λ (z : ℤ). q *ℤ z) (opposite m) ∙ times_opposite q (pos (m + 1)) ∙ ap neg_ℤ (*ℤ_comm q (pos (m + 1))) in
    omega (arith, ints, turn, other)

pub divides : (a b : ℤ) → (b ≡ pos 0 → ⊥) → Divides a b
divides a (pos m) h =
    let is : remainder a (pos m) ≡ a -ℤ pos m *ℤ quotient_down a m = ap (λ (q : ℤ). a -ℤ pos m *ℤ q) (unless_zero a m (eqb m 0) (nonzero m h)) in
    let rest = rest_down a m (positive m h) in
    record {
      natural = subst (λ (r : ℤ). pos 0 ≤ℤ r) (sym is) rest.0;
      below = λ up. subst (λ (r : ℤ). r <ℤ pos m) (sym is) rest.1;
      above = λ down. absurd (not_below m down);
    }
divides a (negsuc m) h =
    let is : remainder a (negsuc m) ≡ a -ℤ pos (m + 1) *ℤ quotient_down a (m + 1) = ap (λ (p : ℤ). a -ℤ p) (times_down m (quotient_down a (m + 1))) in
    let rest = rest_down a (m + 1) (omega arith) in
    let size : neg_ℤ (negsuc m) ≡ pos (m + 1) = omega (arith, ints) in
    record {
      natural = subst (λ (r : ℤ). pos 0 ≤ℤ r) (sym is) rest.0;
      below = λ up. absurd (not_above m up);
      above = λ down. subst (λ (r : ℤ). r <ℤ neg_ℤ (negsuc m)) (sym is) (subst (λ (s : ℤ). (a -ℤ pos (m + 1) *ℤ quotient_down a (m + 1)) <ℤ s) (sym size) rest.1);
    }
