-- What is taken from several registers.
use Rattle.std.specs.Prelude.{ℕ, zero, suc, ◌<◌, List, [], ◌∷◌, ◌++◌, Some, length, slice_index_or, slice_set}
use Rattle.wy_value.specs.Datum.{Datum, Array}
use Rattle.wy_heap.specs.declared.heap.Heap.{Heap}
use Rattle.wy_heap.specs.Nodes.{map_of}
use Rattle.wy_heap.specs.Meaning.{MeanAll}
use Rattle.wy_heap.specs.Standing.{Stands, Acts}
use Rattle.wy_sem.specs.Expressions.{Store, put}
use Rattle.wy_mach.specs.Showing.{Shows}
use Rattle.wy_heap.specs.declared.part.Part.{Part}
use Rattle.wy_heap.specs.declared.part.Part.TheVariants.{Null}
use Rattle.wy_value.specs.Seen.{data_of}

-- what these registers hold, each taken before the next
abbrev pub taken : List Part → List ℕ → List Part
taken ps [] = []
taken ps (r ∷ rs) = slice_index_or ps r Null ∷ taken (slice_set ps r Null) rs

-- the registers behind it
abbrev pub emptied : List Part → List ℕ → List Part
emptied ps [] = ps
emptied ps (r ∷ rs) = emptied (slice_set ps r Null) rs

-- so many times null
abbrev pub nulls : ℕ → List Part
nulls zero = []
nulls (suc n) = Null ∷ nulls n

-- each of these is below the limit
abbrev pub AreWithin : ℕ → List ℕ → Type 0
AreWithin limit rs = (k : ℕ) → k < length rs → slice_index_or rs k 0 < limit

-- these are held beside the registers
abbrev pub AreTaken : Heap → List Part → List Part → Type 0
AreTaken h spent ps = (others : List Part) × Stands h (spent ++ (ps ++ others))

-- the heap's callers hold the registers after in place of what was taken and those before
abbrev pub TakenTurns : Heap → Heap → List Part → List Part → List Part → Type 0
TakenTurns old new spent before after = (others : List Part) → Stands old (spent ++ (before ++ others)) → Acts old new after others

-- whatever what was taken stands for, and the registers show, what is made of it came into one of them
abbrev pub GivesMade : Heap → Heap → List Part → List Part → List Part → ℕ → (List Datum → Datum) → Type 0
GivesMade old new spent before after to of =
    (ds : List Datum) (s : Store) → MeanAll (map_of old) (data_of ds) spent → Shows (map_of old) s before → Shows (map_of new) (put s to (Some (of ds))) after

-- the array of these
abbrev pub array_made : List Datum → Datum
array_made ds = Array (data_of ds)
