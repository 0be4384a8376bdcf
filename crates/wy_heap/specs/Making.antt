-- What new arrays and records are made of.
use Rattle.std.specs.Prelude.{◌≡◌, ◌≢◌, ℕ, zero, suc, ◌+◌, ◌≤◌, List, Some, None, length, slice_get}
use Rattle.wy_value.specs.declared.shapes.Shapes.{Shapes}
use Rattle.wy_value.specs.Datum.{Datum, Data, no_items, item}
use Rattle.wy_heap.specs.declared.part.Part.{Part}
use Rattle.wy_heap.specs.declared.part.Part.TheVariants.{Key}
use Rattle.wy_heap.specs.declared.heap.Heap.{Heap}
use Rattle.wy_heap.specs.Nodes.{Form, Map, at, count_at}
use Rattle.wy_heap.specs.Changing.{Lasts}

-- so many times the datum
abbrev pub repeated : ℕ → Datum → Data
repeated zero d = no_items
repeated (suc n) d = item d (repeated n d)

-- the table has a shape with this number, and it has so many fields
abbrev pub HasShape : Shapes → ℕ → ℕ → Type 0
HasShape table n fields = (list : List ℕ) × (slice_get table.lists n ≡ Some list) × (length list ≡ fields)

-- a node of this form with these parts came at a key that had none, and every other key is as before
pub record IsNew (old new : Map) (made : Part) (form : Form) (parts : List Part) : Type 0 where
  pub key : ℕ
  pub is_key : made ≡ Key key
  pub vacant : at old key ≡ None
  pub is : at new key ≡ Some (record { form = form; parts = parts })
  pub others : (k : ℕ) → k ≢ key → at new k ≡ at old k

-- such a node came, and behind it each node is as it was or gone
pub record Came (old new : Map) (made : Part) (form : Form) (parts : List Part) : Type 0 where
  pub between : Map
  pub is_new : IsNew old between made form parts
  pub lasts : Lasts between new

-- the part holds no node, or one that can have so many holders more within the cap
abbrev pub CanHave : Heap → ℕ → Part → Type 0
CanHave h more p = (k : ℕ) → p ≡ Key k → count_at h k + more ≤ h.cap
