-- What a term says of a datum. A constrained name stands upward for its definition and downward for nothing; under a negation the readings swap.
use Rattle.std.specs.Prelude.{ℕ, zero, suc, List, [], ◌∷◌, Bool, true, false, not, ◌&&◌, ◌||◌, Option, Some, None, slice_get}
use Rattle.std.specs.Option.{unwrap_or}
use Rattle.std.specs.Str.{bytes_eq}
use Rattle.wy_core.specs.wy_value.Datum.{Datum, Data, Fields, no_items, item, no_fields, field}
use Rattle.wy_core.specs.wy_value.Datum as datum
use Rattle.wy_core.specs.wy_value.Values.{names_of}
use Rattle.wy_types.specs.declared.table.Node.{Node}
use Rattle.wy_types.specs.declared.table.Node.TheVariants as node
use Rattle.wy_types.specs.declared.table.Definition.{Definition}
use Rattle.wy_types.specs.declared.table.Table.{Table}
use Rattle.wy_types.specs.Shape.{Shape, NullShape, BoolShape, IntShape, ArrayShape, RecordShape, is_null, is_bool, is_int, any_in}

-- the term with this number; what has no number is nothing
abbrev pub node_of : Table → ℕ → Node
node_of table t = unwrap_or (slice_get table.nodes t) node.Void

-- what the name with this number stands for
abbrev pub definition_of : Table → ℕ → Option Definition
definition_of table n = slice_get table.definitions n

-- each item is in the term
abbrev pub items_in : List (Bool → ℕ → Bool) → Bool → ℕ → Bool
items_in [] up t = true
items_in (r ∷ rs) up t = r up t && items_in rs up t

-- is an array of such items
abbrev pub array_in : Shape ℕ → Bool → ℕ → Bool
array_in (ArrayShape items) up t = items_in items up t
array_in _ up t = false

-- the fields have these names, and each value is in its term
abbrev pub values_in : List (List ℕ) → List (Bool → ℕ → Bool) → Bool → List (List ℕ × ℕ) → Bool
values_in [] [] up [] = true
values_in (n ∷ ns) (r ∷ rs) up (f ∷ fs) = bytes_eq n f.0 && (r up f.1 && values_in ns rs up fs)
values_in _ _ up _ = false

-- is a record of such fields
abbrev pub record_in : Shape ℕ → Bool → List (List ℕ × ℕ) → Bool
record_in (RecordShape names values) up fs = values_in names values up fs
record_in _ up fs = false

-- is in what a name stands for
abbrev pub named_in : (Bool → ℕ → Bool) → Bool → Option Definition → Bool
named_in at up None = false
named_in at up (Some d) = (up || not d.constrained) && at up d.term

-- is in the node, by what is told of the datum in other terms
abbrev pub node_in : Table → (Bool → ℕ → Bool) → Shape ℕ → Bool → Node → Bool
node_in table at shape up node.Null = is_null shape
node_in table at shape up node.Bool = is_bool shape
node_in table at shape up node.Int = is_int shape
node_in table at shape up node.Any = true
node_in table at shape up node.Void = false
node_in table at shape up (node.Record fs) = record_in shape up fs
node_in table at shape up (node.Array t) = array_in shape up t
node_in table at shape up (node.Union a b) = at up a || at up b
node_in table at shape up (node.Inter a b) = at up a && at up b
node_in table at shape up (node.Not a) = not (at (not up) a)
node_in table at shape up (node.Named n) = named_in at up (definition_of table n)
node_in table at shape up (node.Normal cs) = any_in shape cs

-- is in the term, names unfolded no deeper than the number
abbrev pub is_in : Table → ℕ → Shape ℕ → Bool → ℕ → Bool
is_in table zero shape up t = false
is_in table (suc k) shape up t = node_in table (is_in table k shape) shape up (node_of table t)

abbrev mutual
  -- the datum, with what its parts tell
  pub shape_of : Table → ℕ → Datum → Shape ℕ
  shape_of table k datum.Null = NullShape
  shape_of table k (datum.Truth b) = BoolShape
  shape_of table k (datum.Whole z) = IntShape
  shape_of table k (datum.Array items) = ArrayShape (item_readers table k items)
  shape_of table k (datum.Record fields) = RecordShape (names_of fields) (field_readers table k fields)

  -- what each item tells
  pub item_readers : Table → ℕ → Data → List (Bool → ℕ → Bool)
  item_readers table k no_items = []
  item_readers table k (item d rest) = is_in table k (shape_of table k d) ∷ item_readers table k rest

  -- what each field tells
  pub field_readers : Table → ℕ → Fields → List (Bool → ℕ → Bool)
  field_readers table k no_fields = []
  field_readers table k (field name d rest) = is_in table k (shape_of table k d) ∷ field_readers table k rest

-- whether a datum is in a term, by a reading
abbrev pub member : Table → ℕ → Datum → Bool → ℕ → Bool
member table k d = is_in table k (shape_of table k d)
