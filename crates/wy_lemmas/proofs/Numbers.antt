-- Whole numbers and numbers.
use Rattle.std.proofs.Common.{◌≡◌, ◌<◌, ℕ, zero, suc, pos, refl, arith, ◌*◌, ◌+◌, negsuc, neg_ℤ, ℤ, ◌+ℤ◌, ◌*ℤ◌, ap, ◌∙◌, ◌-◌, cond, eqb, ◌≤ℤ◌}
use Rattle.std.proofs.Math.IntN.{suc_ℤ-*ℤ, zero-*ℤ, +ℤ_idl, pred_ℤ, pred_ℤ-*ℤ, pred_ℤ-+ℤ, suc_ℤ, suc_ℤ-+ℤ, *ℤ_comm}
use Rattle.std.proofs.lemmas.Int.{ints}

pub positive : (m : ℕ) → (pos m ≡ pos 0 → ⊥) → 0 < m
positive zero h = absurd (h refl)
positive (suc m) h = omega arith

pub some_more : (k : ℕ) → 0 < suc k
some_more k = omega arith

pub once_above : (x : ℕ) → 0 < x → 0 < 1 * x
once_above x h = omega (arith, h)

pub twice_above : (x : ℕ) → 0 < x → 0 < 2 * x
twice_above x h = omega (arith, h)

pub opposite : (k : ℕ) → negsuc k ≡ neg_ℤ (pos (k + 1))
opposite k = omega (arith, ints)

pub one_more : (n : ℕ) → n + 1 ≡ suc n
one_more n = omega arith

pub zero_and : (z : ℤ) → pos 0 +ℤ z ≡ z
zero_and z = omega (arith, ints)

pub one_times : (x : ℤ) → pos 1 *ℤ x ≡ x
one_times x = suc_ℤ-*ℤ (pos 0) x ∙ ap (λ (y : ℤ). y +ℤ x) (zero-*ℤ x) ∙ +ℤ_idl x

pub none_first : (z : ℤ) → z ≡ pos 0 +ℤ z
none_first z = omega (arith, ints)

pub pos_times : (m k : ℕ) → pos m *ℤ pos k ≡ pos (m * k)
pos_times m k = refl

pub less_one : (k c : ℕ) → suc k - 1 + c ≡ k + c
less_one k c = omega arith

pub one_over : (n k : ℕ) → n + suc k ≡ (n + 1) + k
one_over n k = omega arith

pub right_zero : (b v : ℤ) → (pos 0 +ℤ b) *ℤ v ≡ pos 0 *ℤ v +ℤ b *ℤ v
right_zero b v =
    let none = zero-*ℤ v in
    ap (λ (x : ℤ). x *ℤ v) (+ℤ_idl b) ∙ omega (arith, ints, none)

pub alone_from : (q z : ℤ) → q ≡ pos 0 +ℤ z → q ≡ z
alone_from q z e = omega (arith, ints, e)

pub right_down : (a b v : ℤ) → (a +ℤ b) *ℤ v ≡ a *ℤ v +ℤ b *ℤ v → (pred_ℤ a +ℤ b) *ℤ v ≡ pred_ℤ a *ℤ v +ℤ b *ℤ v
right_down a b v known =
    let whole = pred_ℤ-*ℤ (a +ℤ b) v in
    let one = pred_ℤ-*ℤ a v in
    ap (λ (x : ℤ). x *ℤ v) (pred_ℤ-+ℤ a b) ∙ omega (arith, ints, whole, one, known)

pub right_up : (a b v : ℤ) → (a +ℤ b) *ℤ v ≡ a *ℤ v +ℤ b *ℤ v → (suc_ℤ a +ℤ b) *ℤ v ≡ suc_ℤ a *ℤ v +ℤ b *ℤ v
right_up a b v known =
    let whole = suc_ℤ-*ℤ (a +ℤ b) v in
    let one = suc_ℤ-*ℤ a v in
    ap (λ (x : ℤ). x *ℤ v) (suc_ℤ-+ℤ a b) ∙ omega (arith, ints, whole, one, known)

pub none_and_rest : (c v rest : ℤ) → c *ℤ v ≡ pos 0 → rest ≡ pos 0 → c *ℤ v +ℤ rest ≡ pos 0
none_and_rest c v rest e f = omega (arith, ints, e, f)

abbrev pub EntryBelow : ℕ → ℕ × ℕ × ℕ → Type 0
EntryBelow n e = (e.1 < n) × (e.2 < n)

-- the label, where one class becomes another
abbrev pub moved : ℕ → ℕ → ℕ → ℕ
moved from into l = cond (eqb l from) into l

abbrev pub two : ℕ → ℕ → ℕ × ℕ
two a b = (a, b)

pub distrib_right : (a b v : ℤ) → (a +ℤ b) *ℤ v ≡ a *ℤ v +ℤ b *ℤ v
distrib_right (pos zero) b v = right_zero b v
distrib_right (pos (suc n)) b v = right_up (pos n) b v (distrib_right (pos n) b v)
distrib_right (negsuc zero) b v = right_down (pos 0) b v (right_zero b v)
distrib_right (negsuc (suc n)) b v = right_down (negsuc n) b v (distrib_right (negsuc n) b v)

pub even_sum : (m : ℕ) (a c d e k : ℤ) → a ≡ k +ℤ k → pos (2 * m) *ℤ c ≡ e → a +ℤ e ≡ d → d ≡ (k +ℤ (pos m *ℤ c)) +ℤ (k +ℤ (pos m *ℤ c))
even_sum m a c d e k f g h =
    let twice : pos (2 * m) ≡ pos m +ℤ pos m = omega (arith, ints) in
    let apart = distrib_right (pos m) (pos m) c in
    let whole : pos (2 * m) *ℤ c ≡ pos m *ℤ c +ℤ pos m *ℤ c = ap (λ (x : ℤ). x *ℤ c) twice ∙ apart in
    omega (arith, ints, f, g, h, whole)

pub zero_natural : pos 0 ≤ℤ (pos 0 +ℤ pos 0)
zero_natural = omega (arith, ints)

pub distrib_left : (m a b : ℤ) → m *ℤ (a +ℤ b) ≡ m *ℤ a +ℤ m *ℤ b
distrib_left m a b =
    let whole = *ℤ_comm m (a +ℤ b) in
    let turned = distrib_right a b m in
    let first = *ℤ_comm a m in
    let second = *ℤ_comm b m in
    omega (arith, ints, whole, turned, first, second)
