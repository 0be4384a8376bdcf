-- Parts of what registers hold.
use Rattle.std.specs.Prelude.{◌≡◌, ℕ, List, Some, ⊤}
use Rattle.wy_value.specs.Datum.{Datum}
use Rattle.wy_heap.specs.declared.part.Part.{Part}
use Rattle.wy_heap.specs.declared.heap.Heap.{Heap}
use Rattle.wy_heap.specs.Nodes.{map_of}
use Rattle.wy_heap.specs.Slots.{Step, HasStep, child}
use Rattle.wy_sem.specs.Expressions.{Store, slot, put}
use Rattle.wy_mach.specs.declared.stop.Stop.{Stop}
use Rattle.wy_mach.specs.declared.stop.Stop.TheVariants.{Stuck, NoMemory}
use Rattle.wy_mach.specs.Showing.{Shows}

-- whatever the registers show, what the one holds has that part, and the part came into the other one
abbrev pub GivesPart : Heap → Heap → List Part → List Part → ℕ → ℕ → Step → Type 0
GivesPart h n ps qs to from step =
    (s : Store) (d : Datum) → Shows (map_of h) s ps → slot s from ≡ Some d → HasStep d step × Shows (map_of n) (put s to (Some (child d step))) qs

-- whatever the registers show, what the one holds lacks that part; nothing is said where there was no memory
abbrev pub LacksPart : Heap → List Part → ℕ → Step → Stop → Type 0
LacksPart h ps from step Stuck = (s : Store) (d : Datum) → Shows (map_of h) s ps → slot s from ≡ Some d → HasStep d step → ⊥
LacksPart h ps from step NoMemory = ⊤
