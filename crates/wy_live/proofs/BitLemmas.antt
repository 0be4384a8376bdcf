-- The bits of a word behind each change, and the first one in which two words differ.
use Rattle.std.proofs.Common.{◌≡◌, ◌<◌, ◌≤◌, ◌+◌, ◌-◌, ◌*◌, ◌/◌, ◌%◌, ◌^◌, min, max, ℕ, zero, suc, Bool, true, false, not, ◌&&◌, ◌||◌, ◌==◌, bit_and, bit_or, refl, sym, ap, ◌∙◌, subst, arith, w64}
use Rattle.std.specs.Int.{bit_at, bit_not, trailing_zeros}
use Rattle.std.proofs.lemmas.Nat.{shr-shr, shr_le, and_le_l}
use Rattle.std.proofs.lemmas.Nat.Bits.{bit_at-zero, bit_at_and, bit_at_or, bit_at_not, bit_at_set_same, bit_at_set_other, bit_at_clear_same, bit_at_clear_other, bit_at-lt, bit_at_above, bit_at-trailing_zeros, same_from_bits}
use Rattle.std.proofs.lemmas.Bool.{cases_lt}
use Rattle.wy_lemmas.proofs.Choices.{false_true as never, either, at_end as is_apart, by_same}
use Rattle.wy_live.specs.Words.{is_set}

or_bits : (a b : ℕ) → a < 2 → b < 2 → (max a b == 1) ≡ ((a == 1) || (b == 1))
or_bits zero zero h k = refl
or_bits zero (suc zero) h k = refl
or_bits zero (suc (suc b)) h k = absurd (omega arith)
or_bits (suc zero) zero h k = refl
or_bits (suc zero) (suc zero) h k = refl
or_bits (suc zero) (suc (suc b)) h k = absurd (omega arith)
or_bits (suc (suc a)) b h k = absurd (omega arith)

apart_bits : (a b : ℕ) → a < 2 → b < 2 → (min a (1 - b) == 1) ≡ ((a == 1) && not (b == 1))
apart_bits zero zero h k = refl
apart_bits zero (suc zero) h k = refl
apart_bits zero (suc (suc b)) h k = absurd (omega arith)
apart_bits (suc zero) zero h k = refl
apart_bits (suc zero) (suc zero) h k = refl
apart_bits (suc zero) (suc (suc b)) h k = absurd (omega arith)
apart_bits (suc (suc a)) b h k = absurd (omega arith)

pub either_set : (a b i : ℕ) → is_set (bit_or a b) i ≡ (is_set a i || is_set b i)
either_set a b i = ap (λ (z : ℕ). z == 1) (bit_at_or a b i) ∙ or_bits (bit_at a i) (bit_at b i) (bit_at-lt a i) (bit_at-lt b i)

pub none_set : (i : ℕ) → is_set 0 i ≡ false
none_set i = ap (λ (z : ℕ). z == 1) (bit_at-zero i)

-- a number with a bit isn't 0
pub filled_by : (b i : ℕ) → is_set b i ≡ true → 0 < b
filled_by zero i e = never (sym (none_set i) ∙ e)
filled_by (suc b) i e = omega arith

max_zero : (x y : ℕ) → max x y ≡ 0 → x ≡ 0
max_zero x y h = omega arith

filled_either : (n a b : ℕ) → bit_or a b ≡ n → 0 < a → 0 < n
filled_either zero a b h f =
    let e : a ≡ 0 = same_from_bits a 0 (λ i. max_zero (bit_at a i) (bit_at b i) (sym (bit_at_or a b i) ∙ (ap (λ z. bit_at z i) h ∙ bit_at-zero i)) ∙ sym (bit_at-zero i)) in
    absurd (omega arith)
filled_either (suc n) a b h f = omega arith

pub either_filled : (a b : ℕ) → 0 < a → 0 < bit_or a b
either_filled a b f = filled_either (bit_or a b) a b refl f

pub with_set : (n k i : ℕ) → k < 64 → is_set (bit_or n (1 * 2 ^ k % 2 ^ 64)) i ≡ (i == k || is_set n i)
with_set n k i h = by_same i k (λ b. is_set (bit_or n (1 * 2 ^ k % 2 ^ 64)) i ≡ (b || is_set n i))
    (λ e. subst (λ z. is_set (bit_or n (1 * 2 ^ k % 2 ^ 64)) z ≡ true) (sym e) (ap (λ (z : ℕ). z == 1) (bit_at_set_same w64 n k h)))
    (λ ne. ap (λ (z : ℕ). z == 1) (bit_at_set_other w64 n k h i ne))

pub with_filled : (n k : ℕ) → k < 64 → 0 < bit_or n (1 * 2 ^ k % 2 ^ 64)
with_filled n k h = filled_by (bit_or n (1 * 2 ^ k % 2 ^ 64)) k (ap (λ (z : ℕ). z == 1) (bit_at_set_same w64 n k h))

pub without_set : (n k i : ℕ) → k < 64 → i < 64 → is_set (bit_and n (2 ^ 64 - 1 - 1 * 2 ^ k % 2 ^ 64)) i ≡ (not (i == k) && is_set n i)
without_set n k i h l = by_same i k (λ b. is_set (bit_and n (2 ^ 64 - 1 - 1 * 2 ^ k % 2 ^ 64)) i ≡ (not b && is_set n i))
    (λ e. subst (λ z. is_set (bit_and n (2 ^ 64 - 1 - 1 * 2 ^ k % 2 ^ 64)) z ≡ false) (sym e) (ap (λ (z : ℕ). z == 1) (bit_at_clear_same w64 n k h)))
    (λ ne. ap (λ (z : ℕ). z == 1) (bit_at_clear_other w64 n k h i l ne))

-- ---- the first one apart

-- the bits of the one that the other lacks, from a least one on
abbrev pub apart : ℕ → ℕ → ℕ → ℕ
apart one other least = bit_and one (2 ^ 64 - 1 - other) / 2 ^ least

bit_apart : (one other least i : ℕ) → bit_at (apart one other least) i ≡ min (bit_at one (least + i)) (bit_at (bit_not w64 other) (least + i))
bit_apart one other least i = ap (λ z. z % 2) (shr-shr (bit_and one (bit_not w64 other)) least i) ∙ bit_at_and one (bit_not w64 other) (least + i)

apart_set : (one other least i : ℕ) → other < 2 ^ 64 → least + i < 64 → is_set (apart one other least) i ≡ (is_set one (least + i) && not (is_set other (least + i)))
apart_set one other least i h l =
    ap (λ (z : ℕ). z == 1) (bit_apart one other least i ∙ ap (λ z. min (bit_at one (least + i)) z) (bit_at_not w64 other (least + i) h l))
    ∙ apart_bits (bit_at one (least + i)) (bit_at other (least + i)) (bit_at-lt one (least + i)) (bit_at-lt other (least + i))

-- where the one has a bit that isn't apart, the other has it
not_apart : (a b : Bool) → (a && not b) ≡ false → a ≡ true → b ≡ true
not_apart a true e h = refl
not_apart true false e h = never (sym e)
not_apart false false e h = never h

kept_below : (one other least n : ℕ) → other < 2 ^ 64 → ((i : ℕ) → i < n → is_set (apart one other least) i ≡ false) → (i : ℕ) → least ≤ i → i < least + n → i < 64 → is_set one i ≡ true → is_set other i ≡ true
kept_below one other least n h f i l r b =
    let e : least + (i - least) ≡ i = omega arith in
    let lt : least + (i - least) < 64 = omega arith in
    not_apart (is_set one i) (is_set other i)
    (ap (λ z. is_set one z && not (is_set other z)) (sym e) ∙ (sym (apart_set one other least (i - least) h lt) ∙ f (i - least) (omega arith)))

pub none_apart : (one other least : ℕ) → other < 2 ^ 64 → apart one other least ≡ 0 → (i : ℕ) → least ≤ i → i < 64 → is_set one i ≡ true → is_set other i ≡ true
none_apart one other least h e i l r = kept_below one other least 64 h (λ k _. ap (λ z. is_set z k) e ∙ none_set k) i l (omega arith) r

and_le : (x y : ℕ) → min x y ≤ x
and_le x y = omega arith

module _ (one other least : ℕ) (h : one < 2 ^ 64) (k : other < 2 ^ 64) (some : 0 < apart one other least) where
  abbrev pub first : ℕ
  first = trailing_zeros w64 (apart one other least)

  bound : apart one other least < 2 ^ 64
  bound = (let a = shr_le (bit_and one (2 ^ 64 - 1 - other)) least in let b = and_le_l one (2 ^ 64 - 1 - other) in omega (arith, a, b, h))

  tells : (first < 64) × (bit_at (apart one other least) first ≡ 1) × ((i : ℕ) → i < first → bit_at (apart one other least) i ≡ 0)
  tells = bit_at-trailing_zeros w64 (apart one other least) some bound

  one_has : bit_at one (least + first) ≡ 1
  one_has = (let e : min (bit_at one (least + first)) (bit_at (bit_not w64 other) (least + first)) ≡ 1 = sym (bit_apart one other least first) ∙ tells.1 in let l = bit_at-lt one (least + first) in let m = and_le (bit_at one (least + first)) (bit_at (bit_not w64 other) (least + first)) in omega (arith, e, l, m))

  pub within_word : least + first < 64
  within_word = either (λ (l : least + first < 64). l) (λ (g : 64 ≤ least + first). let z = bit_at_above one 64 (least + first) h g in let o = one_has in absurd (omega (arith, z, o))) (cases_lt (least + first) 64)

  pub first_found : (is_set one (least + first) ≡ true) × (is_set other (least + first) ≡ false)
  first_found = is_apart (is_set one (least + first)) (is_set other (least + first)) (sym (apart_set one other least first k within_word) ∙ ap (λ (z : ℕ). z == 1) tells.1)

  pub none_before : (i : ℕ) → least ≤ i → i < least + first → is_set one i ≡ true → is_set other i ≡ true
  none_before i l r = (let w = within_word in kept_below one other least first k (λ j lt. ap (λ (z : ℕ). z == 1) (tells.2 j lt)) i l r (omega arith))
