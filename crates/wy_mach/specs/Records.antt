-- Records of data.
use Rattle.std.specs.Prelude.{ℕ, List}
use Rattle.wy_value.specs.Datum.{Datum, Record}
use Rattle.wy_heap.specs.Slots.{joined}
use Rattle.wy_value.specs.Seen.{data_of}

-- the record of these, with these names
abbrev pub record_made : List (List ℕ) → List Datum → Datum
record_made names ds = Record (joined names (data_of ds))
