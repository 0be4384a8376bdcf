-- Places of terms in a list.
use Rattle.std.proofs.Common.{◌≡◌, ◌∙◌, ◌+◌, ◌<◌, ℕ, suc, List, [], ◌∷◌, length, Bool, true, false, cond, Some, refl, ap, arith}
use Rattle.wy_lemmas.proofs.Options.{below_step}
use Rattle.wy_search_spec.proofs.SharedLemmas.{place_above}
use Rattle.wy_check_spec.proofs.wy_term_proofs.SharedLemmas.{same_step}
use Rattle.wy_check_spec.specs.wy_term.Term.{Term}
use Rattle.wy_check_spec.specs.wy_term.Same.{same_term}
use Rattle.wy_check_spec.specs.judge.Node.{has_formula}
use Rattle.wy_search_spec.specs.Classes.{place_from}

-- ---- where a place lies

below_from : (ts : List Term) (t : Term) (k i : ℕ) → place_from ts t k ≡ Some i → i < k + length ts
below_from [] t k i e = absurd cc
below_from (u ∷ us) t k i e = below_step (same_term u t) k i (length us) (place_from us t (suc k)) (λ f. below_from us t (suc k) i f) e

pub place_below : (ts : List Term) (t : Term) (i : ℕ) → place_from ts t 0 ≡ Some i → i < length ts
place_below ts t i e = omega (arith, below_from ts t 0 i e)

-- ---- one place, one term

same_from : (ts : List Term) (s t : Term) (k i : ℕ) → place_from ts s k ≡ Some i → place_from ts t k ≡ Some i → s ≡ t
same_from [] s t k i e f = absurd cc
same_from (u ∷ us) s t k i e f =
    same_step u s t k i (place_from us s (suc k)) (place_from us t (suc k)) (same_term u s) (same_term u t) refl refl
    (λ x. place_above us s (suc k) i x) (λ y. place_above us t (suc k) i y) (λ x y. same_from us s t (suc k) i x y) e f

pub place_same : (ts : List Term) (s t : Term) (i : ℕ) → place_from ts s 0 ≡ Some i → place_from ts t 0 ≡ Some i → s ≡ t
place_same ts s t i e f = same_from ts s t 0 i e f

-- ---- terms of the list have places, and no others

pub record IsPlaced (ts : List Term) (t : Term) : Type 0 where
  pub at : ℕ
  pub is : place_from ts t 0 ≡ Some at

record IsPlacedFrom (ts : List Term) (t : Term) (k : ℕ) : Type 0 where
  at : ℕ
  is : place_from ts t k ≡ Some at

placed_from : (ts : List Term) (t : Term) (k : ℕ) → has_formula ts t ≡ true → IsPlacedFrom ts t k
placed_from [] t k e = absurd cc
placed_from (u ∷ us) t k e = by (λ g. placed_from us t (suc k) g) (same_term u t) refl e
  where
    by : (has_formula us t ≡ true → IsPlacedFrom us t (suc k)) → (b : Bool) → same_term u t ≡ b → cond b true (has_formula us t) ≡ true → IsPlacedFrom (u ∷ us) t k
    by rest true f g = record { at = k; is = ap (λ (c : Bool). cond c (Some k) (place_from us t (suc k))) f }
    by rest false f g = let h = rest g in record { at = h.at; is = ap (λ (c : Bool). cond c (Some k) (place_from us t (suc k))) f ∙ h.is }

pub placed : (ts : List Term) (t : Term) → has_formula ts t ≡ true → IsPlaced ts t
placed ts t e = let h = placed_from ts t 0 e in record { at = h.at; is = h.is }

among_from : (ts : List Term) (t : Term) (k i : ℕ) → place_from ts t k ≡ Some i → has_formula ts t ≡ true
among_from [] t k i e = absurd cc
among_from (u ∷ us) t k i e = by (λ f. among_from us t (suc k) i f) (same_term u t) e
  where
    by : (place_from us t (suc k) ≡ Some i → has_formula us t ≡ true) → (b : Bool) → cond b (Some k) (place_from us t (suc k)) ≡ Some i → cond b true (has_formula us t) ≡ true
    by rest true f = refl
    by rest false f = rest f

pub among : (ts : List Term) (t : Term) (i : ℕ) → place_from ts t 0 ≡ Some i → has_formula ts t ≡ true
among ts t i e = among_from ts t 0 i e

-- ---- the first labels
