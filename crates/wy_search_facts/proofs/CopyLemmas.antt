-- Copies of lists of literals and formulas.
use Rattle.std.proofs.Common.{◌≡◌, ◌∙◌, ◌+◌, ◌≤◌, length, ℕ, zero, suc, List, [], ◌∷◌, ◌++◌, take, Bool, Some, refl, sym, ap, ap₂, arith}
use Rattle.std.specs.List.{AllZip}
use Rattle.std.specs.Prelude.{slice_get}
use Rattle.wy_lemmas.proofs.Lists.{take_next}

pub take_more : (ps : List (ℕ × Bool)) (i : ℕ) (p : ℕ × Bool) → slice_get ps i ≡ Some p → take i ps ++ p ∷ [] ≡ take (i + 1) ps
take_more ps i p here = let next : suc i ≡ i + 1 = omega arith in sym (take_next ps i p here) ∙ ap (λ (j : ℕ). take j ps) next

pub taken_all : (ps : List (ℕ × Bool)) (i : ℕ) → length ps ≤ i → take i ps ≡ ps
taken_all [] zero le = refl
taken_all [] (suc i) le = refl
taken_all (p ∷ ps) zero le = absurd (omega (arith, le))
taken_all (p ∷ ps) (suc i) le = ap (λ (qs : List (ℕ × Bool)). p ∷ qs) (taken_all ps i (omega (arith, le)))

pair_so : (x y : ℕ × Bool) → y.0 ≡ x.0 → y.1 ≡ x.1 → y ≡ x
pair_so x y e f = ap₂ (λ (a : ℕ) (b : Bool). (a, b)) e f

pub clones_are : (xs ys : List (ℕ × Bool)) → AllZip (λ (x y : ℕ × Bool). (y.0 ≡ x.0) × (y.1 ≡ x.1)) xs ys → ys ≡ xs
clones_are [] [] e = refl
clones_are [] (y ∷ ys) e = absurd e
clones_are (x ∷ xs) [] e = absurd e
clones_are (x ∷ xs) (y ∷ ys) e = ap₂ (λ (p : ℕ × Bool) (ps : List (ℕ × Bool)). p ∷ ps) (pair_so x y e.0.0 e.0.1) (clones_are xs ys e.1)
