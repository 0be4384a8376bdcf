-- How copies come in place of nodes with more holders than the cap allows.
use Rattle.std.specs.Prelude.{◌≡◌, ◌≢◌, ℕ, ◌+◌, ◌≤◌, ◌<◌, ◌⊎◌, min, List, [], ◌∷◌, ◌++◌, Some, None, IsSome, length, slice_set, slice_index_or}
use Rattle.wy_value.specs.Datum.{Datum}
use Rattle.wy_heap.specs.declared.part.Part.{Part}
use Rattle.wy_heap.specs.declared.part.Part.TheVariants.{Null, Key}
use Rattle.wy_heap.specs.declared.heap.Heap.{Heap}
use Rattle.wy_heap.specs.Nodes.{Body, Map, map_of, at, count_at, holds, held, slot_holds, inner}
use Rattle.wy_heap.specs.Meaning.{Means}
use Rattle.wy_heap.specs.Standing.{Counts}
use Rattle.wy_heap.specs.Slots.{part_of}
use Rattle.wy_heap.specs.Weighing.{weight}
use Rattle.wy_heap.specs.Copying.{CopiesAsMany}
use Rattle.wy_heap.specs.Freeing.{times}
use Rattle.wy_heap.specs.Changing.{More}

-- how many slots of these nodes hold the key
abbrev pub owing : ℕ → Map → List ℕ → ℕ
owing k m [] = 0
owing k m (n ∷ ns) = slot_holds k (at m n) + owing k m ns

-- how large the trees of these nodes are
abbrev pub loads : Map → List ℕ → ℕ
loads m [] = 0
loads m (n ∷ ns) = weight m (Key n) + loads m ns

-- the same places are held, each part stands for what it stood for, and no count fell below the cap
pub record Settles (old new : Heap) : Type 0 where
  pub counts : (others : List Part) → Counts old others → Counts new others
  pub keeps : (q : Part) (d : Datum) → Means (map_of old) d q → Means (map_of new) d q
  pub fresh : (k : ℕ) → IsSome (at (map_of old) k) → inner k (map_of old) ≡ 0 → IsSome (at (map_of new) k) × (inner k (map_of new) ≡ 0)
  pub cap : new.cap ≡ old.cap
  pub high : (k : ℕ) → min (count_at old k) old.cap ≤ count_at new k

-- the slot of the node holds a copy of the node that it held
pub record Splits (old new : Heap) (node place key copy : ℕ) : Type 0 where
  pub vacant : at (map_of old) copy ≡ None
  pub key_body : Body
  pub key_was : at (map_of old) key ≡ Some key_body
  pub body : Body
  pub was : at (map_of old) node ≡ Some body
  pub within : place < length body.parts
  pub part : slice_index_or body.parts place Null ≡ Key key
  pub is : at (map_of new) node ≡ Some (record { form = body.form; parts = slice_set body.parts place (Key copy) })
  pub copy_is : at (map_of new) copy ≡ Some key_body
  pub others : (k : ℕ) → k ≢ node → k ≢ copy → at (map_of new) k ≡ at (map_of old) k
  pub counts : (k : ℕ) → count_at new k + holds k (Key key) ≡ count_at old k + held k key_body.parts + holds k (Key copy)
  pub settles : Settles old new
  pub copies : CopiesAsMany old new

-- nothing was to be done at the slot, or it holds a copy now, whose parts are to be looked at
abbrev pub SettlesPlace : ℕ → Heap → Heap → ℕ → ℕ → List ℕ → List ℕ → Type 0
SettlesPlace cap old new node place before after =
    ((new ≡ old) × (after ≡ before) × ((k : ℕ) → part_of (at (map_of old) node) place ≡ Key k → count_at old k ≤ cap))
    ⊎ ((key : ℕ) × (copy : ℕ) × Splits old new node place key copy × (after ≡ before ++ copy ∷ []))

-- these nodes are there and apart, from each other and from this one
pub record AreTodo (m : Map) (node : ℕ) (todo : List ℕ) : Type 0 where
  pub there : (k : ℕ) → 1 ≤ times k todo → IsSome (at m k)
  pub once : (k : ℕ) → times k todo ≤ 1
  pub apart : times node todo ≡ 0

-- a map that has none of these nodes
abbrev pub Lacks : Map → List ℕ → Type 0
Lacks base todo = (k : ℕ) → 1 ≤ times k todo → at base k ≡ None

-- the nodes of a map that lacks the node and those to do stay
abbrev pub Spares : Heap → Heap → ℕ → List ℕ → Type 0
Spares old new node todo = (base : Map) → More base (map_of old) → at base node ≡ None → Lacks base todo → More base (map_of new)

-- the parts of the node were looked at, and those of its new copies are to be
pub record SettlesNode (cap : ℕ) (old new : Heap) (node : ℕ) (before after : List ℕ) : Type 0 where
  pub copies : CopiesAsMany old new
  pub there : (k : ℕ) → 1 ≤ times k after → IsSome (at (map_of new) k)
  pub once : (k : ℕ) → times k after ≤ 1
  pub lacks : (base : Map) → More base (map_of old) → at base node ≡ None → Lacks base before → Lacks base after
  pub over : ((k : ℕ) → count_at old k ≤ cap + slot_holds k (at (map_of old) node) + owing k (map_of old) before) → (k : ℕ) → count_at new k ≤ cap + owing k (map_of new) after
  pub less : loads (map_of new) after + 1 ≤ loads (map_of old) before + weight (map_of old) (Key node)
