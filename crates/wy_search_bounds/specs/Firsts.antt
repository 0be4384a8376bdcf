-- The first places of classes.
use Rattle.std.specs.Prelude.{◌≡◌, ◌<◌, ℕ, List, Option, Some, slice_get, slice_index}
use Rattle.wy_cong.specs.wy_search_spec.Bounds.{first_with, first_of_class}

-- what was found of a label is its first place, and the labels of the first n places were found
pub record AreNoted (labels : List ℕ) (found : ℕ → Option ℕ) (n : ℕ) : Type 0 where
  pub first : (l k : ℕ) → found l ≡ Some k → first_with labels l 0 ≡ k
  pub all : (v : ℕ) → v < n → (k : ℕ) × (found (slice_index labels v) ≡ Some k)

-- what is listed for a place is the first place of its class
abbrev pub AreFirsts : List ℕ → List ℕ → Type 0
AreFirsts labels firsts = (v k : ℕ) → slice_get firsts v ≡ Some k → k ≡ first_of_class labels v
