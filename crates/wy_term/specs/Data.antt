-- What the operations of terms do to data. Each is total.
use Rattle.std.specs.Prelude.{ℕ, zero, suc, ◌+◌, ◌/◌, List, [], ◌∷◌, Bool, true, false, ◌&&◌, ◌==◌, if◌then◌else◌, bytes_eq, ℤ, pos, negsuc, neg_ℤ, ◌-ℤ◌, ◌*ℤ◌}
use Rattle.std.specs.Ordering.{int_eq, is_lt, nat_cmp}
use Rattle.std.specs.Bool.{beq}
use Rattle.std.specs.Cmp.Lexicographic.{slice_cmp}
use Rattle.wy_value.specs.Datum.{Datum, Null, Truth, Whole, Array, Record, Data, no_items, item, Fields, no_fields}
use Rattle.wy_value.specs.Datum as datum
use Rattle.wy_term.specs.Term.{DataKind, null_kind, bool_kind, int_kind, array_kind, record_kind}

-- ---- numbers

-- the quotient by a natural number above 0, rounded down
abbrev pub quotient_down : ℤ → ℕ → ℤ
quotient_down (pos n) m = pos (n / m)
quotient_down (negsuc n) m = negsuc (n / m)

-- the Euclidean quotient, or 0 where the divisor is 0
abbrev pub quotient : ℤ → ℤ → ℤ
quotient a (pos m) = if m == 0 then pos 0 else quotient_down a m
quotient a (negsuc m) = neg_ℤ (quotient_down a (m + 1))

-- the Euclidean remainder, or the dividend where the divisor is 0
abbrev pub remainder : ℤ → ℤ → ℤ
remainder a b = a -ℤ b *ℤ quotient a b

-- the number in a datum, or 0
abbrev pub number_in : Datum → ℤ
number_in Null = pos 0
number_in (Truth _) = pos 0
number_in (Whole z) = z
number_in (Array _) = pos 0
number_in (Record _) = pos 0

-- ---- arrays

abbrev pub length_of : Data → ℕ
length_of no_items = 0
length_of (item d rest) = suc (length_of rest)

-- the length of an array, or 0
abbrev pub length_in : Datum → ℤ
length_in Null = pos 0
length_in (Truth _) = pos 0
length_in (Whole _) = pos 0
length_in (Array items) = pos (length_of items)
length_in (Record _) = pos 0

-- the element with this number, or null
abbrev pub nth : Data → ℕ → Datum
nth no_items k = Null
nth (item d rest) zero = d
nth (item d rest) (suc k) = nth rest k

abbrev pub item_at : Data → ℤ → Datum
item_at items (pos k) = nth items k
item_at items (negsuc k) = Null

-- the element of an array at an index, or null
abbrev pub element : Datum → ℤ → Datum
element Null k = Null
element (Truth _) k = Null
element (Whole _) k = Null
element (Array items) k = item_at items k
element (Record _) k = Null

-- the list with another element of this number, if it has one
abbrev pub with_nth : Data → ℕ → Datum → Data
with_nth no_items k e = no_items
with_nth (item d rest) zero e = item e rest
with_nth (item d rest) (suc k) e = item d (with_nth rest k e)

abbrev pub with_item_at : Data → ℤ → Datum → Data
with_item_at items (pos k) e = with_nth items k e
with_item_at items (negsuc k) e = items

-- an array with another element at an index; nothing else changes
abbrev pub with_element : Datum → ℤ → Datum → Datum
with_element Null k e = Null
with_element (Truth b) k e = Truth b
with_element (Whole z) k e = Whole z
with_element (Array items) k e = Array (with_item_at items k e)
with_element (Record fields) k e = Record fields

-- so many copies
abbrev pub copies : Datum → ℕ → Data
copies d zero = no_items
copies d (suc n) = item d (copies d n)

-- an array of copies, none where the number is negative
abbrev pub repeated : Datum → ℤ → Datum
repeated d (pos n) = Array (copies d n)
repeated d (negsuc n) = Array no_items

-- ---- records

-- the datum of a field, or null
abbrev pub field_of : Fields → List ℕ → Datum
field_of no_fields name = Null
field_of (datum.field n d rest) name = if bytes_eq n name then d else field_of rest name

-- the field of a record, or null
abbrev pub field_in : Datum → List ℕ → Datum
field_in Null name = Null
field_in (Truth _) name = Null
field_in (Whole _) name = Null
field_in (Array _) name = Null
field_in (Record fields) name = field_of fields name

-- the fields with this one, in the place of one with its name or among the rising names
abbrev pub with_field_of : Fields → List ℕ → Datum → Fields
with_field_of no_fields name d = datum.field name d no_fields
with_field_of (datum.field n e rest) name d =
    if bytes_eq n name then datum.field n d rest
    else (if is_lt (slice_cmp nat_cmp name n) then datum.field name d (datum.field n e rest) else datum.field n e (with_field_of rest name d))

-- a record with this field; of a datum that is none, the record of this field
abbrev pub with_field : Datum → List ℕ → Datum → Datum
with_field Null name d = Record (datum.field name d no_fields)
with_field (Truth _) name d = Record (datum.field name d no_fields)
with_field (Whole _) name d = Record (datum.field name d no_fields)
with_field (Array _) name d = Record (datum.field name d no_fields)
with_field (Record fields) name d = Record (with_field_of fields name d)

-- the fields with these names and data, as long as both last
abbrev pub fields_with : List (List ℕ) → List Datum → Fields
fields_with [] ds = no_fields
fields_with (n ∷ ns) [] = no_fields
fields_with (n ∷ ns) (d ∷ ds) = datum.field n d (fields_with ns ds)

-- the array of these data
abbrev pub items_with : List Datum → Data
items_with [] = no_items
items_with (d ∷ ds) = item d (items_with ds)

-- ---- tests

-- the fields have exactly these names, in this order
abbrev pub has_names : Fields → List (List ℕ) → Bool
has_names no_fields [] = true
has_names no_fields (n ∷ ns) = false
has_names (datum.field name d rest) [] = false
has_names (datum.field name d rest) (n ∷ ns) = bytes_eq name n && has_names rest ns

-- the datum is of the kind
abbrev pub is_of_kind : DataKind → Datum → Bool
is_of_kind null_kind Null = true
is_of_kind bool_kind (Truth _) = true
is_of_kind int_kind (Whole _) = true
is_of_kind array_kind (Array _) = true
is_of_kind (record_kind names) (Record fields) = has_names fields names
is_of_kind kind d = false

abbrev mutual
  -- the two data are equal
  pub same_datum : Datum → Datum → Bool
  same_datum Null Null = true
  same_datum (Truth a) (Truth b) = beq a b
  same_datum (Whole a) (Whole b) = int_eq a b
  same_datum (Array items) (Array others) = same_data items others
  same_datum (Record fields) (Record others) = same_fields fields others
  same_datum d e = false

  pub same_data : Data → Data → Bool
  same_data no_items no_items = true
  same_data (item d rest) (item e others) = same_datum d e && same_data rest others
  same_data d e = false

  pub same_fields : Fields → Fields → Bool
  same_fields no_fields no_fields = true
  same_fields (datum.field n d rest) (datum.field m e others) = bytes_eq n m && (same_datum d e && same_fields rest others)
  same_fields d e = false
