-- How one call inside changes the nodes of a heap.
use Rattle.std.specs.Prelude.{◌≡◌, ◌≢◌, ◌⊎◌, ℕ, ◌+◌, ◌≤◌, ◌<◌, List, [], ◌∷◌, ◌++◌, length, Option, Some, None, slice_set}
use Rattle.slab.specs.Slab.{get, ContainsKey, Updates}
use Rattle.wy_value.specs.Datum.{Datum, Data}
use Rattle.wy_heap.specs.declared.part.Part.{Part}
use Rattle.wy_heap.specs.declared.part.Part.TheVariants.{Key}
use Rattle.wy_heap.specs.declared.node.Node.{Node}
use Rattle.wy_heap.specs.declared.node.Shape.{Shape}
use Rattle.wy_heap.specs.declared.heap.Heap.{Heap}
use Rattle.wy_heap.specs.Nodes.{Form, Body, Map, at, map_of, count_at, held, inner}
use Rattle.wy_heap.specs.Meaning.{Means, MeanAll, IsNode, IsSplit}
use Rattle.wy_heap.specs.Standing.{Counts, Keeps}
use Rattle.wy_heap.specs.Slots.{Step, put}
use Rattle.wy_heap.specs.Copying.{raised, CopiesAsMany}

-- the cap, the table and the number of copies are as before
pub record SameRest (old new : Heap) : Type 0 where
  pub cap : new.cap ≡ old.cap
  pub shapes : new.shapes ≡ old.shapes
  pub copies : new.copies ≡ old.copies

-- each node and each count is as before
pub record SameNodes (old new : Heap) : Type 0 where
  pub nodes : (k : ℕ) → at (map_of new) k ≡ at (map_of old) k
  pub counts : (k : ℕ) → count_at new k ≡ count_at old k

-- afterwards what was made and the others are held, and each of the others stands for what it stood for
pub record Leads (old new : Heap) (made others : List Part) : Type 0 where
  pub counts : Counts new (made ++ others)
  pub keeps : Keeps (map_of old) (map_of new) others

-- one key has this now, and all else is as before
pub record Changes (old new : Heap) (key : ℕ) (slot : Option Node) : Type 0 where
  pub shapes : new.shapes ≡ old.shapes
  pub updates : Updates old.nodes new.nodes key slot

-- a node more, with one holder
pub record Adds (old new : Heap) (key : ℕ) (shape : Shape) (parts : List Part) : Type 0 where
  pub vacant : get old.nodes key ≡ None
  pub node : Node
  pub changes : Changes old new key (Some node)
  pub one : node.count ≡ 1
  pub shape_is : node.shape ≡ shape
  pub parts_are : node.parts.items ≡ parts

-- each is a scalar, or a hold on a key that has a node
abbrev pub AreThere : Heap → List Part → Type 0
AreThere h parts = (k : ℕ) → 1 ≤ held k parts → ContainsKey h.nodes k

-- a node more, with one holder; its parts have a holder more, and all else is as before
pub record Joins (old new : Heap) (made : ℕ) (form : Form) (parts : List Part) : Type 0 where
  pub vacant : at (map_of old) made ≡ None
  pub is : at (map_of new) made ≡ Some (record { form = form; parts = parts })
  pub count : count_at new made ≡ 1
  pub counts : (k : ℕ) → k ≢ made → count_at new k ≡ count_at old k + held k parts
  pub others : (k : ℕ) → k ≢ made → at (map_of new) k ≡ at (map_of old) k

-- each of these parts can have a holder more for each of them within the cap
abbrev pub HasRoom : Heap → List Part → Type 0
HasRoom h parts = (k : ℕ) → 1 ≤ held k parts → count_at h k + held k parts ≤ h.cap

-- a node more, with one holder, whose parts have a holder more, and no copy was counted
pub record JoinsAlone (old new : Heap) (made : ℕ) (form : Form) (parts : List Part) : Type 0 where
  pub joins : Joins old new made form parts
  pub copies : new.copies ≡ old.copies

-- the same, and the node was counted as a copy
pub record JoinsCopy (old new : Heap) (made : ℕ) (form : Form) (parts : List Part) : Type 0 where
  pub joins : Joins old new made form parts
  pub copies : new.copies ≡ raised old.copies 1

-- a node of this form can have these parts
abbrev pub Fits : Map → Form → List Part → Type 0
Fits m form parts = (ds : Data) × MeanAll m ds parts × (d : Datum) × IsSplit d form ds

-- a node more, with one holder, which stands for a datum of this form with what the parts stand for;
-- all parts stand for what they stood for, each old node is as before, and no count fell
pub record Builds (old new : Heap) (form : Form) (parts : List Part) (made : ℕ) : Type 0 where
  pub vacant : at (map_of old) made ≡ None
  pub count : count_at new made ≡ 1
  pub counts : (others : List Part) → Counts old others → Counts new (Key made ∷ others)
  pub keeps : (q : Part) (d : Datum) → Means (map_of old) d q → Means (map_of new) d q
  pub node : (ds : Data) → MeanAll (map_of old) ds parts → IsNode (map_of new) (Key made) form ds
  pub stays : (k : ℕ) (b : Body) → at (map_of old) k ≡ Some b → at (map_of new) k ≡ Some b
  pub more : (k : ℕ) → count_at old k ≤ count_at new k
  pub fresh : (k : ℕ) (b : Body) → at (map_of old) k ≡ Some b → inner k (map_of old) + held k parts ≡ 0 → inner k (map_of new) ≡ 0

-- each node that is left is as it was
abbrev pub Lasts : Map → Map → Type 0
Lasts old new = (k : ℕ) → (at new k ≡ None) ⊎ (at new k ≡ at old k)

-- the first map's nodes are all in the second
abbrev pub More : Map → Map → Type 0
More old new = (k : ℕ) (b : Body) → at old k ≡ Some b → at new k ≡ Some b

-- each node of the first map has a holder among these places and the nodes of that map
abbrev pub Upholds : Map → List Part → Type 0
Upholds base places = (k : ℕ) (b : Body) → at base k ≡ Some b → 1 ≤ held k places + inner k base

-- what other places and their nodes hold stays in the map
abbrev pub Upheld : Heap → Map → Part → Type 0
Upheld old new p = (base : Map) (others : List Part) → Counts old (p ∷ others) → Upholds base others → More base (map_of old) → More base new

-- there is a node at the key, and it has the slot
pub record IsNodeSlot (m : Map) (key slot : ℕ) : Type 0 where
  pub body : Body
  pub was : at m key ≡ Some body
  pub within : slot < length body.parts

-- the slot of the node has this part now, and all else is as before
pub record Swaps (old new : Heap) (key slot : ℕ) (part : Part) : Type 0 where
  pub body : Body
  pub was : at (map_of old) key ≡ Some body
  pub within : slot < length body.parts
  pub is : at (map_of new) key ≡ Some (record { form = body.form; parts = slice_set body.parts slot part })
  pub counts : (k : ℕ) → count_at new k ≡ count_at old k
  pub others : (k : ℕ) → k ≢ key → at (map_of new) k ≡ at (map_of old) k

-- a node that no slot and none of the spent parts held is held by no slot and none of the made parts
abbrev pub NoNew : Map → Map → List Part → List Part → Type 0
NoNew old new spent made = (k : ℕ) (b : Body) → at old k ≡ Some b → held k spent + inner k old ≡ 0 → held k made + inner k new ≡ 0

-- the spent places went, and what was made stands for the whole with the part at the end of the path
pub record Wrote (old new : Heap) (spent : List Part) (whole : Part) (path : List Step) (part made : Part) : Type 0 where
  pub leads : (others : List Part) → Counts old (spent ++ others) → Leads old new (made ∷ []) others
  pub value : (w u : Datum) → Means (map_of old) w whole → Means (map_of old) u part → Means (map_of new) (put w path u) made
  pub fresh : NoNew (map_of old) (map_of new) spent (made ∷ [])

-- nodes were only added, each of them counted as a copy, and no count fell
pub record CopiesOnly (old new : Heap) : Type 0 where
  pub stays : More (map_of old) (map_of new)
  pub more : (k : ℕ) → count_at old k ≤ count_at new k
  pub copies : CopiesAsMany old new

-- the parts' holds went over to a node more, which stands for a datum of this form with what they stand for
pub record Adopts (old new : Heap) (form : Form) (parts : List Part) (made : Part) : Type 0 where
  pub counts : (others : List Part) → Counts old (parts ++ others) → Counts new (made ∷ others)
  pub more : More (map_of old) (map_of new)
  pub node : (ds : Data) → MeanAll (map_of old) ds parts → IsNode (map_of new) made form ds
