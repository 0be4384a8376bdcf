-- What is in a set with one variable more, and in the join of two sets.
use Rattle.std.proofs.Common.{◌≡◌, ◌≢◌, ◌⊎◌, inl, inr, ◌<◌, ◌≤◌, ℕ, zero, suc, true, false, ◌||◌, [], ◌∷◌, length, refl, sym, ap, ◌∙◌, arith, length-append}
use Rattle.std.proofs.lemmas.Bool.Decides.{nat_tests}
use Rattle.std.proofs.lemmas.List.{get_or_append_left, get_or_push}
use Rattle.wy_lemmas.proofs.Choices.{or_cases, or_left as or_first, or_right as or_second, either}
use Rattle.wy_code_spec.specs.wy_live.Sets.{Variables, has, with, either_bits, longer, joined}
use Rattle.wy_gen_laws.proofs.expressions_lemmas.KnownLemmas.{same_or_not}

-- ---- truths

-- ---- a set with one variable more

pub with_cases : (s : Variables) (x y : ℕ) → has (with s x) y ≡ true → (y ≡ x) ⊎ (has s y ≡ true)
with_cases [] zero zero h = inl refl
with_cases [] zero (suc y) h = absurd (let e : false ≡ true = h in cc)
with_cases [] (suc x) zero h = absurd (let e : false ≡ true = h in cc)
with_cases [] (suc x) (suc y) h = either (λ e. inl (ap suc e)) (λ g. absurd (let e : false ≡ true = g in cc)) (with_cases [] x y h)
with_cases (c ∷ cs) zero zero h = inl refl
with_cases (c ∷ cs) zero (suc y) h = inr h
with_cases (c ∷ cs) (suc x) zero h = inr h
with_cases (c ∷ cs) (suc x) (suc y) h = either (λ e. inl (ap suc e)) (λ g. inr g) (with_cases cs x y h)

-- ---- joins

length-either : (s t : Variables) (n : ℕ) → length (either_bits s t n) ≡ n
length-either s t zero = refl
length-either s t (suc n) = let h = length-either s t n in let l = length-append (either_bits s t n) ((has s n || has t n) ∷ []) in omega (arith, l, h)

either_at : (s t : Variables) (n x : ℕ) → x < n → has (either_bits s t n) x ≡ (has s x || has t x)
either_at s t zero x h = absurd (omega (arith, h))
either_at s t (suc n) x h = by (λ less. either_at s t n x less) (same_or_not x n)
  where
    by : (x < n → has (either_bits s t n) x ≡ (has s x || has t x)) → (x ≡ n) ⊎ (x ≢ n) → has (either_bits s t (suc n)) x ≡ (has s x || has t x)
    by before (inl e) = ap (λ (z : ℕ). has (either_bits s t (suc n)) z) e ∙ get_or_push (either_bits s t n) (has s n || has t n) false n (length-either s t n) ∙ sym (ap (λ (z : ℕ). has s z || has t z) e)
    by before (inr other) =
        let less : x < n = omega (arith, h, other) in
        let l = length-either s t n in
        get_or_append_left (either_bits s t n) ((has s n || has t n) ∷ []) false x (omega (arith, l, less)) ∙ before less

has_within : (s : Variables) (x : ℕ) → has s x ≡ true → x < length s
has_within [] x e = absurd (let h : false ≡ true = e in cc)
has_within (c ∷ cs) zero e = omega arith
has_within (c ∷ cs) (suc x) e = let h = has_within cs x e in omega (arith, h)

longer_left : (n m : ℕ) → n ≤ longer n m
longer_left n m = grind (arith, nat_tests)

longer_right : (n m : ℕ) → m ≤ longer n m
longer_right n m = grind (arith, nat_tests)

pub joined_cases : (s t : Variables) (x : ℕ) → has (joined s t) x ≡ true → (has s x ≡ true) ⊎ (has t x ≡ true)
joined_cases s t x e =
    let n = longer (length s) (length t) in
    let l = has_within (joined s t) x e in
    let k = length-either s t n in
    or_cases (has s x) (has t x) (sym (either_at s t n x (omega (arith, l, k))) ∙ e)

pub joined_left : (s t : Variables) (x : ℕ) → has s x ≡ true → has (joined s t) x ≡ true
joined_left s t x e =
    let l = has_within s x e in
    let k = longer_left (length s) (length t) in
    either_at s t (longer (length s) (length t)) x (omega (arith, l, k)) ∙ or_first (has s x) (has t x) e

pub joined_right : (s t : Variables) (x : ℕ) → has t x ≡ true → has (joined s t) x ≡ true
joined_right s t x e =
    let l = has_within t x e in
    let k = longer_right (length s) (length t) in
    either_at s t (longer (length s) (length t)) x (omega (arith, l, k)) ∙ or_second (has s x) (has t x) e
