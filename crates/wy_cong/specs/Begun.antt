-- Which terms have been gone through, and which are under way.
use Rattle.std.specs.Prelude.{◌≡◌, ◌<◌, ◌+◌, ◌⊎◌, ℕ, nat_eq, map, List, [], ◌∷◌, ◌++◌, Bool, true, false, Some, slice_get, ◌&&◌, ◌||◌}
use Rattle.std.specs.HashSet.{contains}
use Rattle.wy_search_spec.specs.wy_check_spec.judge.Node.{has_formula}
use Rattle.wy_check_splits.specs.wy_check_nodes.Seen.{is_denied, signed}
use Rattle.wy_search_spec.specs.Standing.{standing_in}
use Rattle.wy_cong.specs.Marks.{all_marked, with_unmarked}
use Rattle.wy_cong.specs.Walk.{left_at, list_of}
use Rattle.wy_cong.specs.declared.task.Task.{Task}
use Rattle.wy_cong.specs.declared.task.Task.TheVariants.{Visit, Bind, Leave}
use Rattle.wy_cong.specs.declared.walk.Walk.{Walk}
use Rattle.wy_term.specs.Term.{Term, Of, Parts, no_parts, part}

abbrev mutual
  -- how many symbols a term has
  pub size : Term → ℕ
  size (Of symbol ps) = 1 + size_of_parts ps

  pub size_of_parts : Parts → ℕ
  size_of_parts no_parts = 0
  size_of_parts (part t ts) = size t + size_of_parts ts

-- each of these is in the list, but for those of which a name is bound
abbrev pub has_all : List Term → List (Term × Bool) → Bool
has_all done [] = true
has_all done (p ∷ ps) = (p.1 || has_formula done p.0) && has_all done ps

-- all that stands in the term without bound names is in the list
abbrev pub IsGoneThrough : List Term → Term → Type 0
IsGoneThrough done t = has_all done (all_marked [] (standing_in t)) ≡ true

-- what these tasks visit has fewer symbols than n
abbrev pub AreSmaller : (ℕ → Term) → ℕ → List Task → Type 0
AreSmaller at n [] = Unit {0}
AreSmaller at n (Visit k holds ∷ ts) = (size (signed (at k) holds) < n) × AreSmaller at n ts
AreSmaller at n (Bind q ∷ ts) = AreSmaller at n ts
AreSmaller at n (Leave ∷ ts) = AreSmaller at n ts

-- the term will have been gone through when the first of the tasks are done, all of which visit smaller ones
pub record IsUnderWay (at : ℕ → Term) (done : List Term) (tasks : List Task) (around : List Term) (t : Term) : Type 0 where
  pub first : List Task
  pub rest : List Task
  pub split : tasks ≡ first ++ rest
  pub smaller : AreSmaller at (size t) first
  pub gone : IsGoneThrough (with_unmarked done (left_at at first around)) t

-- all that is listed is under way, but for denials
abbrev pub AreUnderWay : (ℕ → Term) → List Term → List Task → List Term → Type 0
AreUnderWay at done tasks around = (t : Term) → is_denied t ≡ false → has_formula done t ≡ true → IsUnderWay at done tasks around t

-- the terms whose visits began are under way, where these tasks are left; so is all that is listed until a quantifier is met
pub record AreBegun (at : ℕ → Term) (walk : Walk) (tasks : List Task) : Type 0 where
  pub each : (k : ℕ) → contains nat_eq walk.begun k ≡ true → IsUnderWay at (list_of at walk) tasks (map at walk.around.items) (at k)
  pub listed : walk.quantified ≡ false → AreUnderWay at (list_of at walk) tasks (map at walk.around.items)
  pub outside : walk.quantified ≡ false → walk.around.items ≡ []

-- no more than those that are listed and are no denials is begun
abbrev pub BeginListed : (ℕ → Bool) → (ℕ → Bool) → List (ℕ × Bool) → Type 0
BeginListed old new ps = (q : ℕ) → new q ≡ true → (old q ≡ true) ⊎ ((i : ℕ) × (slice_get ps i ≡ Some (q, true)))

-- and only where no quantifier was met before
abbrev pub BeginsMet : Bool → (ℕ → Bool) → (ℕ → Bool) → List (ℕ × Bool) → Type 0
BeginsMet met old new ps = (q : ℕ) → new q ≡ true → (old q ≡ true) ⊎ ((met ≡ false) × ((i : ℕ) × (slice_get ps i ≡ Some (q, true))))

-- no more than this one is begun, and only outside quantifiers
abbrev pub BeginsOne : (ℕ → Bool) → (ℕ → Bool) → Bool → ℕ → Type 0
BeginsOne old new outside k = (q : ℕ) → new q ≡ true → (old q ≡ true) ⊎ ((q ≡ k) × (outside ≡ true))
