-- A heap in the middle of a release.
use Rattle.std.specs.Prelude.{◌≡◌, ℕ, ◌+◌, ◌≤◌, ◌==◌, List, [], ◌∷◌, Option, Some, None, IsSome, cond}
use Rattle.slab.specs.Slab.{get}
use Rattle.wy_heap.specs.declared.part.Part.{Part}
use Rattle.wy_heap.specs.declared.node.Node.{Node}
use Rattle.wy_heap.specs.declared.heap.Heap.{Heap}
use Rattle.wy_heap.specs.Nodes.{at, map_of, count_at, held, inner}

-- how often the key stands in the list
abbrev pub times : ℕ → List ℕ → ℕ
times k [] = 0
times k (j ∷ js) = cond (j == k) 1 0 + times k js

-- the node at this key has no holder and waits, with the rest behind it
pub record Waits (h : Heap) (key : ℕ) (rest : Option ℕ → Type 0) : Type 0 where
  pub node : Node
  pub is : get h.nodes key ≡ Some node
  pub none : node.count ≡ 0
  pub then : rest node.next

-- the links lead from the first along these keys
abbrev pub Chain : Heap → List ℕ → Option ℕ → Type 0
Chain h [] first = first ≡ None
Chain h (j ∷ js) first = (first ≡ Some j) × Waits h j (Chain h js)

-- these nodes wait to be freed, and all others have a holder
pub record IsFreeing (h : Heap) (first : Option ℕ) (places : List Part) (dead : List ℕ) : Type 0 where
  pub counted : (k : ℕ) → count_at h k ≡ held k places + inner k (map_of h)
  pub alive : (k : ℕ) → IsSome (at (map_of h) k) → 1 ≤ count_at h k + times k dead
  pub once : (k : ℕ) → times k dead ≤ 1
  pub chain : Chain h dead first

-- the nodes that wait to be freed are linked from the first, and these places are held
abbrev pub Frees : Heap → Option ℕ → List Part → Type 0
Frees h first places = (dead : List ℕ) × IsFreeing h first places dead
