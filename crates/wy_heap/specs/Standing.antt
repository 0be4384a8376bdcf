-- A heap and the places that its callers hold.
use Rattle.std.specs.Prelude.{◌≡◌, ℕ, ◌+◌, ◌≤◌, List, ◌++◌, IsSome}
use Rattle.wy_value.specs.Datum.{Datum}
use Rattle.wy_value.specs.Shapes.{IsShapes}
use Rattle.wy_heap.specs.declared.part.Part.{Part}
use Rattle.wy_heap.specs.declared.part.Part.TheVariants.{Key}
use Rattle.wy_heap.specs.declared.heap.Heap.{Heap}
use Rattle.wy_heap.specs.Nodes.{Map, at, map_of, count_at, held, inner}
use Rattle.wy_heap.specs.Meaning.{Means}

-- these are all the places that are held: each stored count is the number of places and slots that
-- hold the key, and at least 1; each key that is held has a node; and each node stands for a datum
pub record IsCounted (count : ℕ → ℕ) (m : Map) (places : List Part) : Type 0 where
  pub counted : (k : ℕ) → count k ≡ held k places + inner k m
  pub alive : (k : ℕ) → IsSome (at m k) → 1 ≤ count k
  pub there : (k : ℕ) → 1 ≤ count k → IsSome (at m k)
  pub meant : (k : ℕ) → IsSome (at m k) → (d : Datum) × Means m d (Key k)

-- the heap's nodes are counted so
abbrev pub Counts : Heap → List Part → Type 0
Counts h places = IsCounted (count_at h) (map_of h) places

-- no key has more holders than the cap allows
abbrev pub IsWithin : Heap → Type 0
IsWithin h = (k : ℕ) → count_at h k ≤ h.cap

-- the heap stands, and these are all the places that its callers hold
pub record Stands (h : Heap) (places : List Part) : Type 0 where
  pub counts : Counts h places
  pub within : IsWithin h
  pub some : 1 ≤ h.cap
  pub table : IsShapes h.shapes

-- the heap stands, and these places are among those that its callers hold
abbrev pub AreHeld : Heap → List Part → Type 0
AreHeld h places = (others : List Part) × Stands h (places ++ others)

-- a scalar, or a hold on a node that one of these places holds
abbrev pub Among : List Part → Part → Type 0
Among places q = (k : ℕ) → q ≡ Key k → 1 ≤ held k places

-- each of these places stands for what it stood for
abbrev pub Keeps : Map → Map → List Part → Type 0
Keeps old new places = (q : Part) (d : Datum) → Among places q → Means old d q → Means new d q

-- afterwards callers hold what was made and the others, and each of the others stands for what it stood for
pub record Acts (old new : Heap) (made others : List Part) : Type 0 where
  pub stands : Stands new (made ++ others)
  pub keeps : Keeps (map_of old) (map_of new) others

-- the cap and the table of shapes are as before
abbrev pub SameTable : Heap → Heap → Type 0
SameTable old new = (new.cap ≡ old.cap) × (new.shapes ≡ old.shapes)

-- the heap is as before: each node, each count and the number of copies
pub record IsAsBefore (old new : Heap) : Type 0 where
  pub nodes : (k : ℕ) → at (map_of new) k ≡ at (map_of old) k
  pub counts : (k : ℕ) → count_at new k ≡ count_at old k
  pub copies : new.copies ≡ old.copies
