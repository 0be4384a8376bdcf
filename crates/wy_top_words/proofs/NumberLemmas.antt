-- Digits from a place on.
use Rattle.std.proofs.Common.{◌<◌, ◌≤◌, ◌^◌, ℕ, arith}
use Rattle.std.proofs.Math.Nat.{pow-le-pow_right}

-- fewer than 13 digits write less than 10^12
pub below_most : (i n v : ℕ) → n ≤ 13 → v < 10 ^ i → i < n → v < 1000000000000
below_most i n v most lt within =
    let bound : 10 ^ i ≤ 10 ^ 12 = pow-le-pow_right {n = 10} (omega arith) {i = i} {j = 12} (omega arith) in
    omega arith
