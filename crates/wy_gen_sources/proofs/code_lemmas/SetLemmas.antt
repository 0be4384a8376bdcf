-- Sets of variables, and what stops being live.
use Rattle.std.proofs.Common.{◌≡◌, ◌≢◌, ◌<◌, ◌⊎◌, inl, inr, ℕ, zero, suc, List, [], ◌∷◌, ◌++◌, length, Bool, true, false, not, ◌&&◌, ◌==◌, cond, refl, sym, ap, ◌∙◌, subst, arith}
use Rattle.std.proofs.lemmas.Bool.Decides.{eqb_tells}
use Rattle.wy_core.specs.CoreTree.{Expr, Exprs, Fields}
use Rattle.wy_lemmas.proofs.Choices.{or_cases, same_of, same_to, unlike as not_both, false_true as never, either, at_end as both_of, or_either as or_true}
use Rattle.wy_live.specs.Paths.{occurs, any_occurs, any_field_occurs}
use Rattle.wy_live.specs.Sets.{Variables, has, with, without, joined}
use Rattle.wy_live.specs.Walks.{before, before_all, before_fields, turned}
use Rattle.wy_live.proofs.SetLemmas.{has-with, has-without, has-joined}
use Rattle.wy_live.proofs.UseLemmas.{has-before, has-before_all, has-before_fields, has-turned}
use Rattle.wy_live.proofs.LiveLemmas.{and_not, not_and}
use Rattle.wy_gen_laws.specs.wy_code_spec.compiled.Expressions.{lost_below, lost}
use Rattle.wy_gen_sources.specs.code.Large.{IsNone}
use Rattle.wy_gen_sources.specs.code.Alive.{IsOne}

pub true_or_not : (b : Bool) → (b ≡ true) ⊎ (b ≡ false)
true_or_not true = inl refl
true_or_not false = inr refl

pub other_to : (x y : ℕ) → x ≢ y → (x == y) ≡ false
other_to x y h = either (λ (z : ((x == y) ≡ true) × (x ≡ y)). absurd (h z.1)) (λ (z : ((x == y) ≡ false) × (x ≢ y)). z.0) (eqb_tells x y)

pub other_of : (x y : ℕ) → (x == y) ≡ false → x ≢ y
other_of x y e = either (λ (z : ((x == y) ≡ true) × (x ≡ y)). λ w. not_both (x == y) z.0 e) (λ (z : ((x == y) ≡ false) × (x ≢ y)). z.1) (eqb_tells x y)

-- the variable is in the set
abbrev pub Vars : Variables → ℕ → Type 0
Vars s r = has s r ≡ true

pub before_cases : (e : Expr ℕ) (s : Variables) (r : ℕ) → Vars (before e s) r → (occurs e r ≡ true) ⊎ Vars s r
before_cases e s r h = or_cases (occurs e r) (has s r) (sym (has-before e s r) ∙ h)

pub before_of : (e : Expr ℕ) (s : Variables) (r : ℕ) → (occurs e r ≡ true) ⊎ Vars s r → Vars (before e s) r
before_of e s r h = has-before e s r ∙ or_true (occurs e r) (has s r) h

pub all_cases : (es : Exprs ℕ) (s : Variables) (r : ℕ) → Vars (before_all es s) r → (any_occurs es r ≡ true) ⊎ Vars s r
all_cases es s r h = or_cases (any_occurs es r) (has s r) (sym (has-before_all es s r) ∙ h)

pub all_of : (es : Exprs ℕ) (s : Variables) (r : ℕ) → (any_occurs es r ≡ true) ⊎ Vars s r → Vars (before_all es s) r
all_of es s r h = has-before_all es s r ∙ or_true (any_occurs es r) (has s r) h

pub fields_cases : (fs : Fields ℕ) (s : Variables) (r : ℕ) → Vars (before_fields fs s) r → (any_field_occurs fs r ≡ true) ⊎ Vars s r
fields_cases fs s r h = or_cases (any_field_occurs fs r) (has s r) (sym (has-before_fields fs s r) ∙ h)

pub fields_of : (fs : Fields ℕ) (s : Variables) (r : ℕ) → (any_field_occurs fs r ≡ true) ⊎ Vars s r → Vars (before_fields fs s) r
fields_of fs s r h = has-before_fields fs s r ∙ or_true (any_field_occurs fs r) (has s r) h

pub turned_cases : (x : ℕ) (body : Expr ℕ) (s : Variables) (r : ℕ) → Vars (turned x body s) r → ((r ≢ x) × (occurs body r ≡ true)) ⊎ Vars s r
turned_cases x body s r h = either (λ g. let k = and_not (r == x) (occurs body r) g in inl (other_of r x k.0, k.1)) (λ g. inr g) (or_cases (not (r == x) && occurs body r) (has s r) (sym (has-turned x body s r) ∙ h))

pub turned_of : (x : ℕ) (body : Expr ℕ) (s : Variables) (r : ℕ) → ((r ≢ x) × (occurs body r ≡ true)) ⊎ Vars s r → Vars (turned x body s) r
turned_of x body s r h = has-turned x body s r ∙ or_true (not (r == x) && occurs body r) (has s r) (either (λ g. inl (not_and (r == x) (occurs body r) (other_to r x g.0, g.1))) (λ g. inr g) h)

pub with_cases : (s : Variables) (x r : ℕ) → Vars (with s x) r → (r ≡ x) ⊎ Vars s r
with_cases s x r h = either (λ g. inl (same_of r x g)) (λ g. inr g) (or_cases (r == x) (has s r) (sym (has-with s r x) ∙ h))

pub with_of : (s : Variables) (x r : ℕ) → (r ≡ x) ⊎ Vars s r → Vars (with s x) r
with_of s x r h = has-with s r x ∙ or_true (r == x) (has s r) (either (λ g. inl (same_to r x g)) (λ g. inr g) h)

pub without_cases : (s : Variables) (x r : ℕ) → Vars (without s x) r → (r ≢ x) × Vars s r
without_cases s x r h = let k = and_not (r == x) (has s r) (sym (has-without s r x) ∙ h) in (other_of r x k.0, k.1)

pub without_of : (s : Variables) (x r : ℕ) → (r ≢ x) × Vars s r → Vars (without s x) r
without_of s x r h = has-without s r x ∙ not_and (r == x) (has s r) (other_to r x h.0, h.1)

pub joined_cases : (s t : Variables) (r : ℕ) → Vars (joined s t) r → Vars s r ⊎ Vars t r
joined_cases s t r h = or_cases (has s r) (has t r) (sym (has-joined s t r) ∙ h)

pub joined_of : (s t : Variables) (r : ℕ) → Vars s r ⊎ Vars t r → Vars (joined s t) r
joined_of s t r h = has-joined s t r ∙ or_true (has s r) (has t r) h

pub none_has : {A : Type 0} (r : ℕ) → Vars [] r → A
none_has r h = not_both (has [] r) h refl

-- ---- the variables that one set has and the other lacks

one_front : (r : ℕ) (xs ys : List ℕ) → IsOne r xs → IsOne r (xs ++ ys)
one_front r [] ys h = absurd h
one_front r (x ∷ xs) ys (inl e) = inl e
one_front r (x ∷ xs) ys (inr h) = inr (one_front r xs ys h)

one_back : (r : ℕ) (xs ys : List ℕ) → IsOne r ys → IsOne r (xs ++ ys)
one_back r [] ys h = h
one_back r (x ∷ xs) ys h = inr (one_back r xs ys h)

none_append : (r : ℕ) (xs ys : List ℕ) → IsNone r xs → IsNone r ys → IsNone r (xs ++ ys)
none_append r [] ys h g = g
none_append r (x ∷ xs) ys h g = (h.0, none_append r xs ys h.1 g)

has_short : (s : Variables) (r : ℕ) → Vars s r → r < length s
has_short [] zero h = never h
has_short [] (suc r) h = never h
has_short (b ∷ s) zero h = omega arith
has_short (b ∷ s) (suc r) h = let k = has_short s r h in omega (arith, k)

at_or_below : (r n : ℕ) → r < suc n → (r ≡ n) ⊎ (r < n)
at_or_below zero zero h = inl refl
at_or_below zero (suc n) h = inr (omega arith)
at_or_below (suc r) zero h = absurd (omega (arith, h))
at_or_below (suc r) (suc n) h = either (λ e. inl (ap suc e)) (λ k. inr (omega (arith, k))) (at_or_below r n (omega (arith, h)))

and_of : (a b : Bool) → a ≡ true → b ≡ false → (a && not b) ≡ true
and_of true true e g = sym g
and_of true false e g = refl
and_of false b e g = never e

cond_one : (r : ℕ) (b : Bool) → b ≡ true → IsOne r (cond b (r ∷ []) [])
cond_one r true e = inl refl
cond_one r false e = never e

lost_here : (s t : Variables) (n r : ℕ) → r < n → Vars s r → has t r ≡ false → IsOne r (lost_below s t n)
lost_here s t zero r l h g = absurd (omega (arith, l))
lost_here s t (suc n) r l h g =
    either (λ e. one_back r (lost_below s t n) (cond (has s n && not (has t n)) (n ∷ []) []) (subst (λ (k : ℕ). IsOne r (cond (has s k && not (has t k)) (k ∷ []) [])) e (cond_one r (has s r && not (has t r)) (and_of (has s r) (has t r) h g))))
    (λ k. one_front r (lost_below s t n) (cond (has s n && not (has t n)) (n ∷ []) []) (lost_here s t n r k h g)) (at_or_below r n l)

pub lost_of : (s t : Variables) (r : ℕ) → Vars s r → has t r ≡ false → IsOne r (lost s t)
lost_of s t r h g = lost_here s t (length s) r (has_short s r h) h g

-- what isn't lost and was there is still there
pub still_has : (s t : Variables) (r : ℕ) → Vars s r → IsNone r (lost s t) → Vars t r
still_has s t r h none = by (has t r) refl
  where
    one_none : (xs : List ℕ) → IsOne r xs → IsNone r xs → ⊥
    one_none [] a b = a
    one_none (x ∷ xs) (inl e) b = b.0 e
    one_none (x ∷ xs) (inr a) b = one_none xs a b.1

    by : (b : Bool) → has t r ≡ b → Vars t r
    by true e = e
    by false e = absurd (one_none (lost s t) (lost_of s t r h e) none)

cond_none : (r n : ℕ) (b : Bool) → (b ≡ true → r ≢ n) → IsNone r (cond b (n ∷ []) [])
cond_none r n true h = (h refl, tt)
cond_none r n false h = tt

not_lost_below : (s t : Variables) (n r : ℕ) → (Vars s r → has t r ≡ false → ⊥) → IsNone r (lost_below s t n)
not_lost_below s t zero r h = tt
not_lost_below s t (suc n) r h = none_append r (lost_below s t n) (cond (has s n && not (has t n)) (n ∷ []) []) (not_lost_below s t n r h)
    (cond_none r n (has s n && not (has t n)) (λ e same. let k = both_of (has s n) (has t n) e in h (ap (λ (z : ℕ). has s z) same ∙ k.0) (ap (λ (z : ℕ). has t z) same ∙ k.1)))

-- what the first set doesn't have, or the second has too, isn't lost
pub not_lost : (s t : Variables) (r : ℕ) → (Vars s r → has t r ≡ false → ⊥) → IsNone r (lost s t)
not_lost s t r h = not_lost_below s t (length s) r h
