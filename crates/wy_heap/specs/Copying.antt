-- How many nodes were copied, and counted as copies.
use Rattle.std.specs.Prelude.{◌≡◌, ℕ, zero, suc, ◌+◌, ◌-◌, ◌^◌, min, [], ◌∷◌, drop, Option, Some, None}
use Rattle.wy_heap.specs.declared.heap.Heap.{Heap}
use Rattle.wy_heap.specs.Nodes.{Body, Map, at, map_of, size}

-- a number that rose by this, up to 2^64 - 1
abbrev pub raised : ℕ → ℕ → ℕ
raised n zero = n
raised n (suc by) = min (n + suc by) (2 ^ 64 - 1)

-- no node went; beside so many others some were added, and as many were counted as copies
abbrev pub CopiesBeside : ℕ → Heap → Heap → Type 0
CopiesBeside others old new = (made : ℕ) × (size (map_of new) ≡ size (map_of old) + others + made) × (new.copies ≡ raised old.copies made)

-- so many nodes were added, and as many were counted as copies
abbrev pub CopiesAsMany : Heap → Heap → Type 0
CopiesAsMany old new = (made : ℕ) × (size (map_of new) ≡ size (map_of old) + made) × (new.copies ≡ raised old.copies made)

-- a node at a key at which the first map has none
abbrev pub new_at : Option Body → Option Body → Option Body
new_at None d = d
new_at (Some b) d = None

-- the nodes of the second map at keys at which the first has none
abbrev pub news : Map → Map → Map
news m [] = []
news m (d ∷ ds) = new_at (at m 0) d ∷ news (drop 1 m) ds

-- beside so many others some nodes came at keys that had none, and as many were counted as copies
abbrev pub CopiesNew : ℕ → Heap → Heap → Type 0
CopiesNew others old new = (made : ℕ) × (size (news (map_of old) (map_of new)) ≡ others + made) × (new.copies ≡ raised old.copies made)
