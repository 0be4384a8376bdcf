-- Numbers and counts.
use Rattle.std.proofs.Common.{◌≡◌, ℕ, ◌<◌, ◌≤◌, ℤ, negsuc, Bool, true, false, not, ◌&&◌, refl, sym, arith, to_z, of_z}
use Rattle.std.specs.Prelude.{pos, int_le, int_lt}
use Rattle.std.specs.Int.{w128}
use Rattle.std.proofs.lemmas.Bool.{leb-true, ltb-true}
use Rattle.std.proofs.lemmas.Int.{ints}
use lib.IntN.{nat_abs}
use Rattle.wy_lemmas.proofs.Choices.{false_of, both_true}
use Rattle.wy_sem.specs.Operations.{longest}
use Rattle.wy_eval_exprs.specs.Parts.{is_length}

not_both : (a b : Bool) → (b ≡ true → ⊥) → (a && b) ≡ false
not_both true b h = false_of b h
not_both false b h = refl

-- a count as a number of 128 bits
pub count_is : (n : ℕ) → n < 18446744073709551616 → to_z w128 n ≡ pos n
count_is n h = omega (arith, ints, h)

pub no_length_over : (z : ℤ) → int_lt (pos 9223372036854775807) z ≡ true → is_length z ≡ false
unfolding longest
no_length_over (pos k) h = not_both (int_le (pos 0) (pos k)) (int_le (pos k) (pos longest)) (λ g. absurd (omega (arith, ltb-true 9223372036854775807 k h, leb-true k 9223372036854775807 g)))
no_length_over (negsuc k) h = refl

a_length : (k : ℕ) → int_lt (pos 9223372036854775807) (pos k) ≡ false → is_length (pos k) ≡ true
unfolding longest
a_length k h =
    let low : int_le (pos 0) (pos k) ≡ true = grind (arith, ints) in
    let high : int_le (pos k) (pos longest) ≡ true = grind (arith, ints, h) in
    both_true (int_le (pos 0) (pos k)) (int_le (pos k) (pos longest)) low high

-- a number that is neither below 0 nor too great for a length
pub length_is : (z : ℤ) → int_lt z (pos 0) ≡ false → int_lt (pos 9223372036854775807) z ≡ false → (z ≡ pos (nat_abs z)) × (is_length (pos (nat_abs z)) ≡ true)
length_is (pos k) h g = (refl, a_length k g)
length_is (negsuc k) h g = absurd cc
