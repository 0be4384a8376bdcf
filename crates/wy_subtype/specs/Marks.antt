-- Marks of what has a value.
use Rattle.std.specs.Prelude.{◌≡◌, ℕ, ◌<◌, List, [], ◌∷◌, Bool, true, false, ◌&&◌, ◌||◌, Some, slice_get}
use Rattle.wy_canon.specs.wy_value.Datum.{Datum}
use Rattle.wy_canon.specs.wy_types.declared.conjuncts.Signed.{Signed}
use Rattle.wy_canon.specs.wy_types.declared.conjuncts.Conjunct.{Conjunct}
use Rattle.wy_canon.specs.wy_types.declared.table.Table.{Table}
use Rattle.wy_canon.specs.wy_types.Shape.{conjunct_in}
use Rattle.wy_canon.specs.wy_types.Membership.{shape_of}
use Rattle.wy_canon.specs.wy_types.Asks.{HasValue}
pub use Rattle.wy_graph.specs.closure.Marks.{mark_at, any_marked, each_marked}

-- one option is met by the marks
abbrev pub met : List Bool → List (List (List ℕ)) → Bool
met marks [] = false
met marks (o ∷ os) = each_marked marks o || met marks os

-- the parts with a marked conjunct
abbrev pub part_marks : List Bool → List (List ℕ) → List Bool
part_marks marks [] = []
part_marks marks (h ∷ hs) = any_marked marks h ∷ part_marks marks hs

-- each marked part has a value
abbrev pub HaveValues : Table → ℕ → List (List (Signed ℕ)) → List Bool → Type 0
HaveValues table k parts marks = (n : ℕ) (p : List (Signed ℕ)) → mark_at marks n ≡ true → slice_get parts n ≡ Some p → HasValue table k p

-- each marked conjunct has a value
abbrev pub AreSound : Table → ℕ → List (Conjunct ℕ) → List Bool → Type 0
AreSound table k conjuncts marks = (j : ℕ) (c : Conjunct ℕ) → mark_at marks j ≡ true → slice_get conjuncts j ≡ Some c → (d : Datum) × (conjunct_in (shape_of table k d) c ≡ true)

-- the conjunct with this number is marked where what it asks is held
abbrev pub IsClosedBy : List Bool → List Bool → List (List (List (List ℕ))) → ℕ → Type 0
IsClosedBy held marks asks n = (a : List (List (List ℕ))) → slice_get asks n ≡ Some a → met held a ≡ true → mark_at marks n ≡ true

-- so for each number below this one
abbrev pub AreClosedBy : List Bool → List Bool → List (List (List (List ℕ))) → ℕ → Type 0
AreClosedBy held marks asks m = (n : ℕ) → n < m → IsClosedBy held marks asks n
