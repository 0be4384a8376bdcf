-- What is said of values of the language beside types.
use Rattle.std.specs.Prelude.{◌≡◌, ◌⊎◌, ℕ, Bool, List, Option, Some, None, is_some, true, false, cond}
use Rattle.std.specs.Str.{bytes_eq}
use Rattle.wy_value.specs.Datum.{Datum, Data, Fields, no_items, item, no_fields, field}
use Rattle.wy_value.specs.Datum as datum
use Rattle.wy_value.specs.Values.{IsValue}
use Rattle.wy_core.specs.Types.{Ty}
use Rattle.wy_types.specs.Names.{Declared, Up}
pub use Rattle.wy_subtype_parts.specs.Items.{IsItem}
pub use Rattle.wy_subtype_parts.specs.Fields.{value_at, has_value_at}

-- some value of the language is in the one type and not in the other
abbrev pub IsOutside : List Declared → Ty → Ty → Type 0
IsOutside names a b = (v : Datum) × IsValue v × (Up names v a ≡ true) × (Up names v b ≡ false)

-- some value of the language is in the type
abbrev pub IsInhabited : List Declared → Ty → Type 0
IsInhabited names t = (v : Datum) × IsValue v × (Up names v t ≡ true)

-- some array of the language in the type has this item
abbrev pub HasItem : List Declared → Ty → Datum → Type 0
HasItem names t v = (items : Data) × IsItem v items × IsValue (datum.Array items) × (Up names (datum.Array items) t ≡ true)

-- some value of the language in the type is no record with the field
abbrev pub IsLacked : List Declared → List ℕ → Ty → Type 0
IsLacked names f t = (v : Datum) × IsValue v × (has_value_at f v ≡ false) × (Up names v t ≡ true)

-- some record of the language in the type has this at the field
abbrev pub HasField : List Declared → List ℕ → Ty → Datum → Type 0
HasField names f t v = (fields : Fields) × IsValue (datum.Record fields) × (value_at f fields ≡ Some v) × (Up names (datum.Record fields) t ≡ true)
