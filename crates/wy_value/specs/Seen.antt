-- Which datum a value is.
use Rattle.std.specs.Prelude.{ℕ, List, [], ◌∷◌}
use Rattle.wy_value.specs.Datum.{Datum, Data, no_items, item, Fields, no_fields, field}
use Rattle.wy_value.specs.Datum as datum
use Rattle.wy_value.specs.declared.value.Value.{Value, Value-F, fold-Value}

-- these data, in order
abbrev pub data_of : List Datum → Data
data_of [] = no_items
data_of (d ∷ ds) = item d (data_of ds)

-- these fields, in order
abbrev pub fields_of : List (List ℕ × Datum) → Fields
fields_of [] = no_fields
fields_of (f ∷ fs) = field f.0 f.1 (fields_of fs)

abbrev pub seen_layer : Value-F Datum → Datum
seen_layer Value-F.Null = datum.Null
seen_layer (Value-F.Bool b) = datum.Truth b
seen_layer (Value-F.Int z) = datum.Whole z
seen_layer (Value-F.Array items) = datum.Array (data_of items)
seen_layer (Value-F.Record fs) = datum.Record (fields_of fs)

-- the datum that the value is
abbrev pub seen : Value → Datum
seen = fold-Value Datum seen_layer

-- the data of the values, in order
abbrev pub seen_items : List Value → Data
seen_items [] = no_items
seen_items (v ∷ vs) = item (seen v) (seen_items vs)

-- the fields with the data of their values
abbrev pub seen_fields : List (List ℕ × Value) → Fields
seen_fields [] = no_fields
seen_fields (f ∷ fs) = field f.0 (seen f.1) (seen_fields fs)
