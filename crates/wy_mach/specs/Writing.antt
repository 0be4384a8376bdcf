-- What a write at the end of a path does to registers that hold scalars and keys, and to the nodes of the heap.
use Rattle.std.specs.Prelude.{◌≡◌, ℕ, List, slice_set}
use Rattle.wy_heap.specs.declared.part.Part.{Part}
use Rattle.wy_heap.specs.declared.part.Part.TheVariants.{Null}
use Rattle.wy_heap.specs.declared.part.Slot.{Slot}
use Rattle.wy_heap.specs.declared.heap.Heap.{Heap}
use Rattle.wy_heap.specs.Nodes.{map_of}
use Rattle.wy_heap.specs.Slots.{Step, steps_of}
use Rattle.wy_heap.specs.Changing.{Lasts}
use Rattle.wy_heap.specs.Putting.{Sole, Puts, RoomAlong}
use Rattle.wy_code.specs.declared.instructions.Slot as of_code
use Rattle.wy_mach.specs.Sharing.{part_in}
use Rattle.wy_mach.specs.Paths.{AreSlotsOf}

-- the item comes to the end of a path into the place: the nodes on it are written in place up to the first with a second holder, and copied from there on. What that makes comes into one of the registers that are left
pub record PutsPath (old new : Heap) (left after : List Part) (whole : ℕ) (place item : Part) (path : List Step) : Type 0 where
  pub made : Part
  pub between : Heap
  pub puts : Puts old between place path item made
  pub registers : after ≡ slice_set left whole made
  pub lasts : Lasts (map_of between) (map_of new)
  pub copies : new.copies ≡ between.copies

-- the same, where the copies take no key past the cap; and where each node on the path has one holder no copy is counted
pub record PutsAlong (old new : Heap) (left after : List Part) (whole : ℕ) (place item : Part) (path : List Step) : Type 0 where
  pub room : RoomAlong old place path → PutsPath old new left after whole place item path
  pub sole : Sole old place path → new.copies ≡ old.copies

-- what a register held comes to the end of a path into what another one holds: both are taken, and the slots are those that the path's steps lead to
abbrev pub WritesPath : Heap → Heap → List Part → List Part → ℕ → List of_code.Slot → ℕ → Type 0
WritesPath old new before after whole steps from =
    let left = slice_set before from Null in
    (path : List Slot) × AreSlotsOf old before steps path × PutsAlong old new (slice_set left whole Null) after whole (part_in left whole) (part_in before from) (steps_of old.shapes path)

-- a node on the path has a second holder
abbrev pub IsNotSole : Heap → List Part → ℕ → List of_code.Slot → ℕ → Type 0
IsNotSole old before whole steps from =
    (path : List Slot) × AreSlotsOf old before steps path × (Sole old (part_in (slice_set before from Null) whole) (steps_of old.shapes path) → ⊥)
