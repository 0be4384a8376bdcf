-- Pairs of a number and a sign are equal exactly where what they stand for is.
use Rattle.std.proofs.Common.{◌≡◌, ◌<◌, ◌&&◌, ℕ, Bool, true, false, eqb, refl, sym, ap, ◌∙◌}
use Rattle.std.specs.Bool.{beq}
use Rattle.std.proofs.lemmas.Bool.{eqb-true}
use Rattle.wy_lemmas.proofs.Choices.{and_false, and_end as and_true, eqb_itself as eqb_self}
use Rattle.wy_check_spec.specs.wy_term.Term.{Term, Not}
use Rattle.wy_check_spec.specs.wy_term.Same.{same_term}
use Rattle.wy_check_spec.proofs.wy_term_proofs.SameLemmas.{terms_are, terms_self}
use Rattle.wy_check_spec.specs.judge.Node.{same_literal}
use Rattle.wy_check_nodes.specs.Seen.{seen_literal, signed, seen_formula, is_denied, IsBare, same_signed}

-- two numbers below the bound are equal exactly where they name equal terms
abbrev pub NamesOnce : (ℕ → Term) → ℕ → Type 0
NamesOnce at n = (s t : ℕ) → s < n → t < n → eqb t s ≡ same_term (at s) (at t)

pub names_once : (at : ℕ → Term) (n : ℕ) → ((s t : ℕ) → s < n → t < n → at s ≡ at t → s ≡ t) → NamesOnce at n
names_once at n one s t ls lt = by (same_term (at s) (at t)) refl
  where
    unless_equal : (b : Bool) → eqb t s ≡ b → same_term (at s) (at t) ≡ false → b ≡ false
    unless_equal false is e = refl
    unless_equal true is e =
        let same : same_term (at s) (at t) ≡ true = ap (λ (k : ℕ). same_term (at s) (at k)) (eqb-true t s is) ∙ terms_self (at s) in
        absurd cc

    by : (b : Bool) → same_term (at s) (at t) ≡ b → eqb t s ≡ b
    by true is = ap (λ (k : ℕ). eqb t k) (one s t ls lt (terms_are (at s) (at t) is)) ∙ eqb_self t
    by false is = unless_equal (eqb t s) refl is

beq_sym : (a b : Bool) → beq a b ≡ beq b a
beq_sym true true = refl
beq_sym true false = refl
beq_sym false true = refl
beq_sym false false = refl

pub one_literal : (at : ℕ → Term) (n : ℕ) → NamesOnce at n → (p q : ℕ × Bool) → p.0 < n → q.0 < n → same_literal (seen_literal at q) (seen_literal at p) ≡ same_signed p q
one_literal at n once p q lp lq = ap (λ (b : Bool). b && beq q.1 p.1) (sym (once q.0 p.0 lq lp)) ∙ ap (λ (b : Bool). eqb p.0 q.0 && b) (beq_sym q.1 p.1)

-- ---- formulas and denials

not_denied : (f g : Term) → is_denied f ≡ false → same_term f (Not g) ≡ false
not_denied f g bare = by (same_term f (Not g)) refl
  where
    by : (b : Bool) → same_term f (Not g) ≡ b → b ≡ false
    by false is = refl
    by true is = let e : is_denied f ≡ true = ap is_denied (terms_are f (Not g) is) in absurd cc

not_bare : (f g : Term) → is_denied f ≡ false → same_term (Not g) f ≡ false
not_bare f g bare = by (same_term (Not g) f) refl
  where
    by : (b : Bool) → same_term (Not g) f ≡ b → b ≡ false
    by false is = refl
    by true is = let e : is_denied f ≡ true = ap is_denied (sym (terms_are (Not g) f is)) in absurd cc

same_signs : (f g : Term) (x y : Bool) (e : Bool) → (x ≡ true → is_denied f ≡ false) → (y ≡ true → is_denied g ≡ false) → e ≡ same_term f g → same_term (signed f x) (signed g y) ≡ (e && beq y x)
same_signs f g true true e bf bg is = sym is ∙ sym (and_true e)
same_signs f g true false e bf bg is = not_denied f g (bf refl) ∙ sym (and_false e)
same_signs f g false true e bf bg is = not_bare g f (bg refl) ∙ sym (and_false e)
same_signs f g false false e bf bg is = and_true (same_term f g) ∙ (sym is ∙ sym (and_true e))

pub one_formula : (at : ℕ → Term) (n : ℕ) → NamesOnce at n → (p q : ℕ × Bool) → p.0 < n → q.0 < n → IsBare at p → IsBare at q → same_term (seen_formula at q) (seen_formula at p) ≡ same_signed p q
one_formula at n once p q lp lq bp bq = same_signs (at q.0) (at p.0) q.1 p.1 (eqb p.0 q.0) bq bp (once q.0 p.0 lq lp)
