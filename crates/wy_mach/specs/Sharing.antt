-- What instructions do to registers that hold scalars and keys, and to the nodes of the heap.
use Rattle.std.specs.Prelude.{◌≡◌, ℕ, ◌<◌, List, length, slice_index_or, slice_set, slice_get, replicate}
use Rattle.wy_value.specs.declared.shapes.Shapes.{Shapes}
use Rattle.wy_heap.specs.declared.part.Part.{Part}
use Rattle.wy_heap.specs.declared.part.Part.TheVariants.{Null}
use Rattle.wy_heap.specs.declared.heap.Heap.{Heap}
use Rattle.wy_heap.specs.Nodes.{Form, list_form, record_of, Map, map_of, holds}
use Rattle.wy_heap.specs.Parts.{IsBelow}
use Rattle.wy_heap.specs.Making.{IsNew, CanHave}
use Rattle.wy_heap.specs.Changing.{Lasts}
use Rattle.wy_heap.specs.Copying.{CopiesNew}

-- what a register holds
abbrev pub part_in : List Part → ℕ → Part
part_in ps r = slice_index_or ps r Null

-- no node is made or written: each that is left is as before, and no copy is counted
pub record Spares (old new : Heap) : Type 0 where
  pub lasts : Lasts (map_of old) (map_of new)
  pub copies : new.copies ≡ old.copies

-- the part comes into one of the registers that are left, and no node is made or written
pub record PutsIn (old new : Heap) (left after : List Part) (to : ℕ) (p : Part) : Type 0 where
  pub registers : after ≡ slice_set left to p
  pub spares : Spares old new

-- a part that holds no node comes into a register
abbrev pub PutsScalar : Heap → Heap → List Part → List Part → ℕ → Type 0
PutsScalar old new before after to = (p : Part) × ((k : ℕ) → holds k p ≡ 0) × PutsIn old new before after to p

-- where this part has fewer holders than the cap, a second hold on it comes into a register
abbrev pub PutsSecond : Heap → Heap → List Part → List Part → ℕ → Part → Type 0
PutsSecond old new before after to p = IsBelow old old.cap p → PutsIn old new before after to p

-- a node of this form with these parts comes at a key that had none, and the hold on it into one of the registers that are left
pub record PutsNew (old new : Heap) (left after : List Part) (to : ℕ) (form : Form) (parts : List Part) : Type 0 where
  pub made : Part
  pub between : Map
  pub is_new : IsNew (map_of old) between made form parts
  pub registers : after ≡ slice_set left to made
  pub lasts : Lasts between (map_of new)
  pub copies : new.copies ≡ old.copies

-- the form of a record of the shape with this number
abbrev pub shape_form : Shapes → ℕ → Form
shape_form t shape = record_of t.names (slice_get t.lists shape)

-- where this part can have so many holders more within the cap, a node of so many holds on it comes: of none where they are none
abbrev pub PutsFilled : Heap → Heap → List Part → List Part → ℕ → ℕ → Part → Type 0
PutsFilled old new left after to many item = CanHave old many item → PutsNew old new left after to list_form (replicate many item)

-- where there is a register with this number, as many copies were counted as nodes came at keys that had none, beside so many others: at the cap too
abbrev pub CountsBeside : ℕ → Heap → Heap → List Part → ℕ → Type 0
CountsBeside others old new before to = to < length before → CopiesNew others old new
