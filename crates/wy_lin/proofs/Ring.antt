-- Laws of whole numbers that products need.
use Rattle.std.proofs.Common.{◌≡◌, ℕ, zero, suc, ℤ, pos, negsuc, ◌-ℤ◌, ◌*ℤ◌, ◌≤ℤ◌, neg_ℤ, sym, ap, ◌∙◌, arith}
use Rattle.std.proofs.lemmas.Int.{ints}
use Rattle.std.proofs.Math.IntN.{suc_ℤ, pred_ℤ, suc_ℤ-*ℤ, pred_ℤ-*ℤ, zero-*ℤ, +ℤ_idl, +ℤ_invr}
use Rattle.wy_term.proofs.wy_lemmas_proofs.Numbers.{distrib_right}

-- ---- a product of a sum

-- ---- a product of three

assoc_up : (m c v : ℤ) → (m *ℤ c) *ℤ v ≡ m *ℤ (c *ℤ v) → (suc_ℤ m *ℤ c) *ℤ v ≡ suc_ℤ m *ℤ (c *ℤ v)
assoc_up m c v known =
    let apart = distrib_right (m *ℤ c) c v in
    let whole = suc_ℤ-*ℤ m (c *ℤ v) in
    ap (λ (x : ℤ). x *ℤ v) (suc_ℤ-*ℤ m c) ∙ omega (arith, ints, apart, whole, known)

assoc_down : (m c v : ℤ) → (m *ℤ c) *ℤ v ≡ m *ℤ (c *ℤ v) → (pred_ℤ m *ℤ c) *ℤ v ≡ pred_ℤ m *ℤ (c *ℤ v)
assoc_down m c v known =
    let apart = distrib_right (m *ℤ c) (neg_ℤ c) v in
    let both = distrib_right c (neg_ℤ c) v in
    let gone = ap (λ (x : ℤ). x *ℤ v) (+ℤ_invr c) in
    let none = zero-*ℤ v in
    let whole = pred_ℤ-*ℤ m (c *ℤ v) in
    ap (λ (x : ℤ). x *ℤ v) (pred_ℤ-*ℤ m c) ∙ omega (arith, ints, apart, both, gone, none, whole, known)

assoc_zero : (c v : ℤ) → (pos 0 *ℤ c) *ℤ v ≡ pos 0 *ℤ (c *ℤ v)
assoc_zero c v = ap (λ (x : ℤ). x *ℤ v) (zero-*ℤ c) ∙ zero-*ℤ v ∙ sym (zero-*ℤ (c *ℤ v))

pub times_assoc : (m c v : ℤ) → (m *ℤ c) *ℤ v ≡ m *ℤ (c *ℤ v)
times_assoc (pos zero) c v = assoc_zero c v
times_assoc (pos (suc n)) c v = assoc_up (pos n) c v (times_assoc (pos n) c v)
times_assoc (negsuc zero) c v = assoc_down (pos 0) c v (assoc_zero c v)
times_assoc (negsuc (suc n)) c v = assoc_down (negsuc n) c v (times_assoc (negsuc n) c v)

-- ---- products with natural numbers, 1 and -1

pub times_pos : (m : ℕ) (x : ℤ) → pos 0 ≤ℤ x → pos 0 ≤ℤ (pos m *ℤ x)
times_pos m x h = grind (arith, ints)

pub minus_times : (x : ℤ) → negsuc 0 *ℤ x ≡ neg_ℤ x
minus_times x = pred_ℤ-*ℤ (pos 0) x ∙ ap (λ (y : ℤ). y -ℤ x) (zero-*ℤ x) ∙ +ℤ_idl (neg_ℤ x)
