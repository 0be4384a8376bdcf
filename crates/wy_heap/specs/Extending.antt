-- How a table of shapes grows.
use Rattle.std.specs.Prelude.{◌≡◌, ◌≢◌, ℕ, ◌<◌, List, [], Some, length, slice_get, slice_index_or}
use Rattle.wy_value.specs.declared.shapes.Shapes.{Shapes}
use Rattle.wy_value.specs.Shapes.{named}

-- each number names in the new table what it names in the old one
pub record Extends (old new : Shapes) : Type 0 where
  pub names : (n : ℕ) (name : List ℕ) → slice_get old.names n ≡ Some name → slice_get new.names n ≡ Some name
  pub lists : (n : ℕ) (list : List ℕ) → slice_get old.lists n ≡ Some list → slice_get new.lists n ≡ Some list

-- it stands nowhere in the list
abbrev pub IsAbsent : List (List ℕ) → List ℕ → Type 0
IsAbsent xs x = (k : ℕ) → k < length xs → slice_index_or xs k [] ≢ x

-- these are numbers of the table, and they have these names
pub record AreNamed (t : Shapes) (list : List ℕ) (names : List (List ℕ)) : Type 0 where
  pub are : named t.names list ≡ names
  pub within : (k : ℕ) → k < length list → slice_index_or list k 0 < length t.names

-- the shape with this number has fields of these names
abbrev pub HasNames : Shapes → ℕ → List (List ℕ) → Type 0
HasNames t n names = (list : List ℕ) × (slice_get t.lists n ≡ Some list) × (named t.names list ≡ names)
