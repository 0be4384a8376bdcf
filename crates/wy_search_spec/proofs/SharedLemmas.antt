-- What the crates above prove of these words, each once.
use Rattle.std.proofs.Common.{◌≡◌, ℕ, suc, List, [], ◌∷◌, length, refl, ap, ◌∙◌, ◌+◌, ◌<◌, zero, arith, ◌++◌, map, Some, ◌≤◌}
use Rattle.std.specs.Prelude.{slice_index}
use Rattle.wy_check_spec.specs.judge.Node.{Node, added, with_formulas}
use Rattle.wy_lemmas.proofs.Options.{above_step}
use Rattle.wy_search_spec.specs.Classes.{numbers_from, place_from}
use Rattle.wy_search_spec.specs.Expansion.{with_some}
use Rattle.wy_check_spec.specs.wy_term.Same.{same_term}
use Rattle.wy_check_spec.specs.wy_term.Term.{Term}

pub length_numbers : (k : ℕ) (ts : List Term) → length (numbers_from k ts) ≡ length ts
length_numbers k [] = refl
length_numbers k (t ∷ ts) = ap suc (length_numbers (suc k) ts)

pub number_at : (ts : List Term) (k i : ℕ) → i < length ts → slice_index (numbers_from k ts) i ≡ k + i
number_at [] k i lt = absurd (omega (arith, lt))
number_at (t ∷ ts) k zero lt = omega arith
number_at (t ∷ ts) k (suc i) lt = number_at ts (suc k) i (omega (arith, lt)) ∙ (let e : suc k + i ≡ k + suc i = omega arith in e)

pub with_last : (at : ℕ → Term) (start : Node) (xs ys : List ℕ) (f : ℕ) → ys ≡ xs ++ f ∷ [] → with_formulas start (map at ys) ≡ with_some (with_formulas start (map at xs)) (Some (at f))
with_last at start xs ys f is = ap (λ (ks : List ℕ). with_formulas start (map at ks)) is ∙ go xs start
  where
    go : (ks : List ℕ) (node : Node) → with_formulas node (map at (ks ++ f ∷ [])) ≡ with_some (with_formulas node (map at ks)) (Some (at f))
    go [] node = refl
    go (k ∷ ks) node = go ks (added node (at k))

pub place_above : (ts : List Term) (t : Term) (k i : ℕ) → place_from ts t k ≡ Some i → k ≤ i
place_above [] t k i e = absurd cc
place_above (u ∷ us) t k i e = above_step (same_term u t) k i (place_from us t (suc k)) (λ f. place_above us t (suc k) i f) e
