-- What the types that flow typing makes of a type say of data.
use Rattle.std.specs.Prelude.{◌≡◌, ℕ, List, true}
use Rattle.wy_value.specs.Datum.{Datum}
use Rattle.wy_core.specs.Types.{Ty}
use Rattle.wy_types.specs.Names.{Declared, Up}
use Rattle.wy_types.specs.Recursion.{RecurThroughParts}
use Rattle.wy_subtype_parts.specs.Norms.{IsNorm}
use Rattle.wy_subtype_parts.specs.Items.{IsElement, IsItemIn}
use Rattle.wy_subtype_parts.specs.Fields.{IsField, IsValueIn}

-- a normal type has the same data
abbrev pub NormsAreSame : Type 0
NormsAreSame = (names : List Declared) → RecurThroughParts names → (t made : Ty) → IsNorm names t made → (d : Datum) → Up names d made ≡ Up names d t

-- each item of an array in the type is in the type of items
abbrev pub ItemsAreIn : Type 0
ItemsAreIn = (names : List Declared) → RecurThroughParts names → (t made : Ty) → IsElement names t made → (d : Datum) → IsItemIn names t d → Up names d made ≡ true

-- each value at the field of a record in the type is in the type of the field
abbrev pub ValuesAreIn : Type 0
ValuesAreIn = (names : List Declared) → RecurThroughParts names → (f : List ℕ) (t made : Ty) → IsField names f t made → (d : Datum) → IsValueIn names f t d → Up names d made ≡ true
