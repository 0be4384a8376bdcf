-- What a place holds, and the slots of its value.
use Rattle.std.specs.Prelude.{◌≡◌, ℕ, ◌<◌, ◌≤ℤ◌, List, Some, slice_get, ⊤}
use Rattle.slab.specs.Slab.{ContainsKey}
use Rattle.wy_value.specs.declared.bounds.TheConstants.{INT_MIN, INT_MAX}
use Rattle.wy_value.specs.declared.shapes.Shapes.{Shapes}
use Rattle.wy_value.specs.Shapes.{named}
use Rattle.wy_value.specs.Datum.{Datum, Data, no_items, item, Fields, no_fields, field}
use Rattle.wy_value.specs.Datum as datum
use Rattle.wy_value.specs.Values.{names_of}
use Rattle.wy_heap.specs.declared.part.Part.{Part}
use Rattle.wy_heap.specs.declared.part.Part.TheVariants.{Null, Bool, Int, Key}
use Rattle.wy_heap.specs.declared.part.Kind as kind
use Rattle.wy_heap.specs.declared.part.Kind.TheVariants as is
use Rattle.wy_heap.specs.declared.heap.Heap.{Heap}
use Rattle.wy_heap.specs.Nodes.{count_at}

-- the part that is this scalar, and null where the kind is none
abbrev pub scalar_part : kind.Kind → Part
scalar_part is.Null = Null
scalar_part (is.Bool b) = Bool b
scalar_part (is.Int n) = Int n
scalar_part is.Array = Null
scalar_part (is.Record n) = Null

-- the kind is null, a truth value or a number of `int`
abbrev pub IsScalar : kind.Kind → Type 0
IsScalar is.Null = ⊤
IsScalar (is.Bool b) = ⊤
IsScalar (is.Int n) = (INT_MIN ≤ℤ n) × (n ≤ℤ INT_MAX)
IsScalar is.Array = ⊥
IsScalar (is.Record n) = ⊥

-- the kind of the datum, by this table
abbrev pub IsKind : Shapes → Datum → kind.Kind → Type 0
IsKind table datum.Null k = k ≡ is.Null
IsKind table (datum.Truth b) k = k ≡ is.Bool b
IsKind table (datum.Whole z) k = k ≡ is.Int z
IsKind table (datum.Array items) k = k ≡ is.Array
IsKind table (datum.Record fields) k = (n : ℕ) × (k ≡ is.Record n) × (list : List ℕ) × (slice_get table.lists n ≡ Some list) × (named table.names list ≡ names_of fields)

-- a scalar, or a hold on a key that has a node
abbrev pub IsThere : Heap → Part → Type 0
IsThere h (Key k) = ContainsKey h.nodes k
IsThere h _ = ⊤

-- a scalar, or a hold on a key that has fewer holders than this
abbrev pub IsBelow : Heap → ℕ → Part → Type 0
IsBelow h most (Key k) = count_at h k < most
IsBelow h most _ = ⊤
