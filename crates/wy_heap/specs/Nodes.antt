-- What a heap's nodes are: the map from keys to nodes, the stored counts, and the holders counted anew.
use Rattle.std.specs.Prelude.{ℕ, ◌+◌, ◌==◌, List, [], ◌∷◌, map, Option, Some, None, cond, slice_index_or, slice_get}
use Rattle.slab.specs.Slab.{get}
use Rattle.wy_value.specs.declared.shapes.Shapes.{Shapes}
use Rattle.wy_value.specs.Shapes.{named}
use Rattle.wy_heap.specs.declared.part.Part.{Part}
use Rattle.wy_heap.specs.declared.part.Part.TheVariants.{Key}
use Rattle.wy_heap.specs.declared.node.Shape.{Shape}
use Rattle.wy_heap.specs.declared.node.Shape.TheVariants as shape
use Rattle.wy_heap.specs.declared.node.Node.{Node}
use Rattle.wy_heap.specs.declared.heap.Heap.{Heap}

-- what kind of value a node is: a list, a record with fields of these names, or none that the table knows
pub data Form : Type 0 where
  list_form : Form
  record_form : (names : List (List ℕ)) → Form
  no_form : Form

-- a node of the map: what kind of value it is, and its parts
pub record Body : Type 0 where
  pub form : Form
  pub parts : List Part

-- the node at each key from 0 on
abbrev pub Map : Type 0
Map = List (Option Body)

-- the form of a record whose shape is this list of field numbers
abbrev pub record_of : List (List ℕ) → Option (List ℕ) → Form
record_of names None = no_form
record_of names (Some list) = record_form (named names list)

-- the form that a shape has by the table
abbrev pub form_of : Shapes → Shape → Form
form_of table shape.Array = list_form
form_of table (shape.Record n) = record_of table.names (slice_get table.lists n)

-- the node as the map has it
abbrev pub body_of : Shapes → Option Node → Option Body
body_of table None = None
body_of table (Some n) = Some (record { form = form_of table n.shape; parts = n.parts.items })

-- the map of a heap
abbrev pub map_of : Heap → Map
map_of h = map (body_of h.shapes) h.nodes.slots

-- the node at a key
abbrev pub at : Map → ℕ → Option Body
at m k = slice_index_or m k None

-- the parts of a node, none where there is no node
abbrev pub parts_in : Option Body → List Part
parts_in None = []
parts_in (Some b) = b.parts

-- the form of a node
abbrev pub form_in : Option Body → Form
form_in None = no_form
form_in (Some b) = b.form

-- the count that a node stores, 0 where there is no node
abbrev pub count_of : Option Node → ℕ
count_of None = 0
count_of (Some n) = n.count

-- the stored count of a key
abbrev pub count_at : Heap → ℕ → ℕ
count_at h k = count_of (get h.nodes k)

-- 1 if this part is a hold on the key, and else 0
abbrev pub holds : ℕ → Part → ℕ
holds k (Key j) = cond (j == k) 1 0
holds k _ = 0

-- how many of these parts hold the key
abbrev pub held : ℕ → List Part → ℕ
held k [] = 0
held k (p ∷ ps) = holds k p + held k ps

-- how many slots of this node hold the key
abbrev pub slot_holds : ℕ → Option Body → ℕ
slot_holds k None = 0
slot_holds k (Some b) = held k b.parts

-- how many slots of all nodes hold the key
abbrev pub inner : ℕ → Map → ℕ
inner k [] = 0
inner k (c ∷ cs) = slot_holds k c + inner k cs

-- how many nodes the map has
abbrev pub size : Map → ℕ
size [] = 0
size (None ∷ cs) = size cs
size (Some _ ∷ cs) = size cs + 1
