-- The slots of a datum, and the datum with another one in a slot.
use Rattle.std.specs.Prelude.{ℕ, ◌+◌, ◌<◌, List, [], ◌∷◌, zero, suc, Some, None, Option, if◌then◌else◌, bytes_eq, slice_index_or, slice_get, length, map, ⊤}
use Rattle.wy_value.specs.declared.shapes.Shapes.{Shapes}
use Rattle.wy_value.specs.Datum.{Datum, Data, no_items, item, Fields, no_fields, field}
use Rattle.wy_value.specs.Datum as datum
use Rattle.wy_value.specs.Values.{names_of, length_of}
use Rattle.wy_heap.specs.declared.part.Part.{Part}
use Rattle.wy_heap.specs.declared.part.Part.TheVariants.{Null, Key}
use Rattle.wy_heap.specs.declared.part.Slot.{Slot}
use Rattle.wy_heap.specs.declared.part.Slot.TheVariants.{Item, Field}
use Rattle.wy_heap.specs.declared.heap.Heap.{Heap}
use Rattle.wy_heap.specs.Nodes.{Form, list_form, record_form, Body, Map, at, map_of, form_in}
use Rattle.wy_heap.specs.Meaning.{Means, data_in}

-- a step into a datum: to an item of a list, to a field of a record, or to none that the table knows
pub data Step : Type 0 where
  item_at : (i : ℕ) → Step
  field_named : (name : List ℕ) → Step
  no_step : Step

-- the step to the field of this name
abbrev pub field_step : Option (List ℕ) → Step
field_step None = no_step
field_step (Some name) = field_named name

-- the step to a slot, by the table
abbrev pub step_of : Shapes → Slot → Step
step_of table (Item i) = item_at i
step_of table (Field n) = field_step (slice_get table.names n)

-- the steps along a path
abbrev pub steps_of : Shapes → List Slot → List Step
steps_of table path = map (step_of table) path

-- where the name stands among these, and how many they are where it is none of them
abbrev pub position_of : List ℕ → List (List ℕ) → ℕ
position_of name [] = 0
position_of name (n ∷ ns) = if bytes_eq n name then 0 else (position_of name ns + 1)

-- the item with this index
abbrev pub nth : Data → ℕ → Datum
nth no_items i = datum.Null
nth (item d ds) zero = d
nth (item d ds) (suc i) = nth ds i

-- the list with another datum for the item with this index
abbrev pub put_nth : Data → ℕ → Datum → Data
put_nth no_items i u = no_items
put_nth (item d ds) zero u = item u ds
put_nth (item d ds) (suc i) u = item d (put_nth ds i u)

-- the fields with another datum for the one with this index
abbrev pub put_field : Fields → ℕ → Datum → Fields
put_field no_fields i u = no_fields
put_field (field n d fs) zero u = field n u fs
put_field (field n d fs) (suc i) u = field n d (put_field fs i u)

-- fields of these names with these data
abbrev pub joined : List (List ℕ) → Data → Fields
joined [] ds = no_fields
joined (n ∷ ns) no_items = no_fields
joined (n ∷ ns) (item d ds) = field n d (joined ns ds)

-- the datum has what the step leads to
abbrev pub HasStep : Datum → Step → Type 0
HasStep (datum.Array items) (item_at i) = i < length_of items
HasStep (datum.Record fields) (field_named name) = position_of name (names_of fields) < length (names_of fields)
HasStep _ _ = ⊥

-- what the step leads to
abbrev pub child : Datum → Step → Datum
child (datum.Array items) (item_at i) = nth items i
child (datum.Record fields) (field_named name) = nth (data_in fields) (position_of name (names_of fields))
child _ _ = datum.Null

-- the datum with another one where the step leads
abbrev pub put_step : Datum → Step → Datum → Datum
put_step (datum.Array items) (item_at i) u = datum.Array (put_nth items i u)
put_step (datum.Record fields) (field_named name) u = datum.Record (put_field fields (position_of name (names_of fields)) u)
put_step d _ u = d

-- the datum has each step of the path
abbrev pub HasPath : Datum → List Step → Type 0
HasPath d [] = ⊤
HasPath d (s ∷ path) = HasStep d s × HasPath (child d s) path

-- the datum with another one at the end of the path
abbrev pub put : Datum → List Step → Datum → Datum
put d [] u = u
put d (s ∷ path) u = put_step d s (put (child d s) path u)

-- the place stands for a datum that has the slot
abbrev pub IsSlot : Heap → Part → Slot → Type 0
IsSlot h p s = (d : Datum) × Means (map_of h) d p × HasStep d (step_of h.shapes s)

-- the place stands for a datum that has each slot of the path
abbrev pub IsPath : Heap → Part → List Slot → Type 0
IsPath h p path = (d : Datum) × Means (map_of h) d p × HasPath d (steps_of h.shapes path)

-- where a step leads in a node of this form
abbrev pub place_in : Form → Step → ℕ
place_in list_form (item_at i) = i
place_in (record_form names) (field_named name) = position_of name names
place_in _ _ = 0

-- the part of a node with this index
abbrev pub part_of : Option Body → ℕ → Part
part_of None i = Null
part_of (Some b) i = slice_index_or b.parts i Null

-- the part where the step leads from this one
abbrev pub part_at : Map → Part → Step → Part
part_at m (Key k) s = part_of (at m k) (place_in (form_in (at m k)) s)
part_at m _ s = Null
