-- What divides a natural number.
use Rattle.std.proofs.Common.{◌≡◌, ◌<◌, ◌+◌, ◌*◌, ◌/◌, ◌%◌, ℕ, zero, suc, sym, ap, ◌∙◌, arith}
use Rattle.std.proofs.lemmas.Nat.{div-add-mod', div-mul-add, mod-mul-add}

pub divisor_from : (n d x : ℕ) → 0 < d → x * d ≡ n → n % d ≡ 0
divisor_from n d x lt e =
    let whole : x * d + 0 ≡ n = omega (arith, e) in
    sym (ap (λ (y : ℕ). y % d) whole) ∙ mod-mul-add x d 0 lt

-- a quotient is one more than that of the number before
pub quotient_before : (n d : ℕ) → 0 < d → suc n % d ≡ 0 → suc (n / d) * d ≡ suc n
quotient_before n zero lt e = absurd (omega (arith, lt))
quotient_before n (suc k) lt e = let whole = div-add-mod' (suc n) (suc k) in by (suc n / suc k) (omega (arith, whole, e))
  where
    by : (q : ℕ) → q * suc k ≡ suc n → suc (n / suc k) * suc k ≡ suc n
    by zero h = absurd (omega (arith, h))
    by (suc p) h =
        let before : n ≡ p * suc k + k = omega (arith, h) in
        let same : n / suc k ≡ p = ap (λ (x : ℕ). x / suc k) before ∙ div-mul-add p (suc k) k (omega arith) in
        ap (λ (x : ℕ). suc x * suc k) same ∙ h
