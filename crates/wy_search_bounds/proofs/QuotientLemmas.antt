-- Quotients rounded down.
use Rattle.std.proofs.Common.{◌≡◌, ◌<◌, ◌+◌, ◌/◌, ℕ, zero, suc, ℤ, pos, negsuc, ◌+ℤ◌, ◌-ℤ◌, ◌*ℤ◌, ◌≤ℤ◌, ◌<ℤ◌, neg_ℤ, refl, ap, ◌∙◌, arith}
use Rattle.std.proofs.lemmas.Int.{ints}
use Rattle.std.proofs.lemmas.Nat.{mod_below}
use Rattle.std.proofs.Math.Nat.{div-add-mod}
use Rattle.std.proofs.Math.IntN.{*ℤ_comm}
use Rattle.wy_cong.proofs.wy_facts_proofs.QuotientLemmas.{times_opposite}
use Rattle.wy_lemmas.proofs.Numbers.{opposite, one_times, pos_times, distrib_left}
use Rattle.wy_term.specs.Data.{quotient_down}

one_more : (m k : ℕ) → pos m *ℤ pos (k + 1) ≡ pos m *ℤ pos k +ℤ pos m
one_more m k =
    let split : pos (k + 1) ≡ pos k +ℤ pos 1 = omega (arith, ints) in
    let one : pos m *ℤ pos 1 ≡ pos m = *ℤ_comm (pos m) (pos 1) ∙ one_times (pos m) in
    ap (λ (z : ℤ). pos m *ℤ z) split ∙ distrib_left (pos m) (pos k) (pos 1) ∙ ap (λ (z : ℤ). pos m *ℤ pos k +ℤ z) one

rest_down : (a : ℤ) (m : ℕ) → 0 < m → (pos 0 ≤ℤ (a -ℤ pos m *ℤ quotient_down a m)) × ((a -ℤ pos m *ℤ quotient_down a m) <ℤ pos m)
rest_down (pos n) m h =
    let whole = div-add-mod n m in
    let low = mod_below n m h in
    let product = pos_times m (n / m) in
    (omega (arith, ints, whole, low, product), omega (arith, ints, whole, low, product))
rest_down (negsuc n) m h =
    let whole = div-add-mod n m in
    let low = mod_below n m h in
    let product = pos_times m (n / m) in
    let more : pos m *ℤ pos (n / m + 1) ≡ pos m *ℤ pos (n / m) +ℤ pos m = one_more m (n / m) in
    let down : pos m *ℤ negsuc (n / m) ≡ neg_ℤ (pos m *ℤ pos (n / m + 1)) = ap (λ (z : ℤ). pos m *ℤ z) (opposite (n / m)) ∙ times_opposite (pos m) (pos (n / m + 1)) in
    (omega (arith, ints, whole, low, product, more, down), omega (arith, ints, whole, low, product, more, down))

-- a multiple of a number within its size is that of 0
within : (m : ℕ) (d : ℤ) → neg_ℤ (pos m) <ℤ (pos m *ℤ d) → (pos m *ℤ d) <ℤ pos m → d ≡ pos 0
within m (pos zero) low high = refl
within m (pos (suc k)) low high =
    let next : pos (suc k) ≡ pos (k + 1) = omega (arith, ints) in
    let more : pos m *ℤ pos (suc k) ≡ pos m *ℤ pos k +ℤ pos m = ap (λ (z : ℤ). pos m *ℤ z) next ∙ one_more m k in
    let product = pos_times m k in
    absurd (omega (arith, ints, more, product, high))
within m (negsuc k) low high =
    let down : pos m *ℤ negsuc k ≡ neg_ℤ (pos m *ℤ pos (k + 1)) = ap (λ (z : ℤ). pos m *ℤ z) (opposite k) ∙ times_opposite (pos m) (pos (k + 1)) in
    let more = one_more m k in
    let product = pos_times m k in
    absurd (omega (arith, ints, down, more, product, low))

-- a multiple more
pub quotient_more : (z k : ℤ) (m : ℕ) → 0 < m → quotient_down (z +ℤ pos m *ℤ k) m ≡ (quotient_down z m +ℤ k)
quotient_more z k m h =
    let q = quotient_down z m in
    let p = quotient_down (z +ℤ pos m *ℤ k) m in
    let one = rest_down z m h in
    let other = rest_down (z +ℤ pos m *ℤ k) m h in
    let d = p +ℤ neg_ℤ (q +ℤ k) in
    let apart : pos m *ℤ d ≡ pos m *ℤ p +ℤ pos m *ℤ neg_ℤ (q +ℤ k) = distrib_left (pos m) p (neg_ℤ (q +ℤ k)) in
    let turned = times_opposite (pos m) (q +ℤ k) in
    let both = distrib_left (pos m) q k in
    let zero_is : d ≡ pos 0 = within m d (omega (arith, ints, apart, turned, both, one.0, one.1, other.0, other.1)) (omega (arith, ints, apart, turned, both, one.0, one.1, other.0, other.1)) in
    omega (arith, ints, zero_is)
