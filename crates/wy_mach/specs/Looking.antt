-- What instructions look at in arrays and records.
use Rattle.std.specs.Prelude.{ℕ, Option, Some, None}
use Rattle.wy_value.specs.Datum.{Datum, Null, Truth, Whole, Array, Record}
use Rattle.wy_value.specs.Values.{length_of}
use Rattle.wy_heap.specs.declared.part.Part.{Part}
use Rattle.wy_heap.specs.declared.heap.Heap.{Heap}
use Rattle.wy_heap.specs.Nodes.{map_of}
use Rattle.wy_heap.specs.Meaning.{Means}
use Rattle.wy_heap.specs.Slots.{HasStep, item_at}

-- how many items the array has that a register holds
abbrev pub length_in : Option Datum → Option ℕ
length_in None = None
length_in (Some Null) = None
length_in (Some (Truth b)) = None
length_in (Some (Whole z)) = None
length_in (Some (Array ds)) = Some (length_of ds)
length_in (Some (Record fs)) = None

-- the place stands for an array that has an item with this index
abbrev pub IsItem : Heap → Part → ℕ → Type 0
IsItem h p i = (d : Datum) × Means (map_of h) d p × HasStep d (item_at i)
