-- Laws of truth values.
use Rattle.std.proofs.Common.{◌≡◌, ◌≢◌, ℕ, false, ◌==◌, refl}
use Rattle.wy_lemmas.proofs.Choices.{by_same}

pub is_other : (x y : ℕ) → x ≢ y → (x == y) ≡ false
is_other x y ne = by_same x y (λ b. b ≡ false) (λ e. absurd (ne e)) (λ _. refl)
