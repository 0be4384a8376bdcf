-- What Euclid's remainders end with.
use Rattle.std.proofs.Common.{◌≡◌, ℕ, zero, suc, ◌<◌, ◌%◌, refl, sym, subst, arith}
use native.Mathlib.Nat.{mod-one}
use Rattle.std.specs.Int.{IsGcd}
use Rattle.std.proofs.lemmas.Nat.Gcd.{IsGcd-from_zero, IsGcd-from_mod, same_from_IsGcd}
use Rattle.wy_lin_eliminate.specs.Division.{gcd_within, gcd}

gcd_within-is : (n a b : ℕ) → b < n → IsGcd a b (gcd_within n a b)
gcd_within-is zero a b lt = absurd (omega (arith, lt))
gcd_within-is (suc n) a zero lt = IsGcd-from_zero a zero refl
gcd_within-is (suc n) a (suc b) lt = IsGcd-from_mod a (suc b) (gcd_within n (suc b) (a % suc b)) (gcd_within-is n (suc b) (a % suc b) (omega (arith, lt)))

pub gcd-is : (a b : ℕ) → IsGcd a b (gcd a b)
unfolding gcd
gcd-is a b = gcd_within-is (suc b) a b (omega arith)

pub gcd_found : (a b x y : ℕ) → y ≡ 0 → ((g : ℕ) → IsGcd x y g → IsGcd a b g) → x ≡ gcd a b
gcd_found a b x y e keeps = same_from_IsGcd a b x (gcd a b) (keeps x (IsGcd-from_zero x y e)) (gcd-is a b)

pub gcd_kept : (a b x y : ℕ) → ((g : ℕ) → IsGcd x y g → IsGcd a b g) → (g : ℕ) → IsGcd y (x % y) g → IsGcd a b g
gcd_kept a b x y keeps g is = keeps g (IsGcd-from_mod x y g is)

pub gcd_one : (a b x y : ℕ) → y ≡ 1 → ((g : ℕ) → IsGcd x y g → IsGcd a b g) → 1 ≡ gcd a b
gcd_one a b x y e keeps =
    let is : IsGcd x 1 1 = IsGcd-from_mod x 1 1 (IsGcd-from_zero 1 (x % 1) (mod-one x)) in
    same_from_IsGcd a b 1 (gcd a b) (keeps 1 (subst (λ (k : ℕ). IsGcd x k 1) (sym e) is)) (gcd-is a b)
