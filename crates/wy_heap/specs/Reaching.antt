-- What places reach.
use Rattle.std.specs.Prelude.{◌≡◌, ℕ, ◌≤◌, List, Some}
use Rattle.wy_heap.specs.declared.part.Part.{Part}
use Rattle.wy_heap.specs.Nodes.{Body, Map, at, held}

-- a place holds the key, or a node that the places reach does
pub data Reach (m : Map) (places : List Part) : ℕ → Type 0 where
  root : (k : ℕ) → 1 ≤ held k places → Reach m places k
  part : (j k : ℕ) (b : Body) → Reach m places j → at m j ≡ Some b → 1 ≤ held k b.parts → Reach m places k
