-- How large a datum is, and the tree below a part.
use Rattle.std.specs.Prelude.{ℕ, ◌+◌, zero, suc, List, [], ◌∷◌}
use Rattle.wy_value.specs.Datum.{Datum, Data, no_items, item, Fields, no_fields, field}
use Rattle.wy_value.specs.Datum as datum
use Rattle.wy_heap.specs.declared.part.Part.{Part}
use Rattle.wy_heap.specs.declared.part.Part.TheVariants.{Null, Bool, Int, Key}
use Rattle.wy_heap.specs.Nodes.{Map, at, parts_in, size}

-- the sum of this over the parts
abbrev pub total : (Part → ℕ) → List Part → ℕ
total f [] = 0
total f (p ∷ ps) = f p + total f ps

-- how many nodes and scalars the tree below a part has, down to this depth
abbrev pub weight_to : ℕ → Map → Part → ℕ
weight_to zero m p = 1
weight_to (suc n) m Null = 1
weight_to (suc n) m (Bool b) = 1
weight_to (suc n) m (Int z) = 1
weight_to (suc n) m (Key k) = 1 + total (weight_to n m) (parts_in (at m k))

-- how many nodes and scalars the tree below a part has: it is no deeper than there are nodes
abbrev pub weight : Map → Part → ℕ
weight m p = weight_to (size m) m p

-- how many arrays, records and scalars a datum has
abbrev mutual
  pub tree : Datum → ℕ
  tree datum.Null = 1
  tree (datum.Truth b) = 1
  tree (datum.Whole z) = 1
  tree (datum.Array items) = 1 + trees items
  tree (datum.Record fs) = 1 + tree_fields fs

  pub trees : Data → ℕ
  trees no_items = 0
  trees (item d ds) = tree d + trees ds

  pub tree_fields : Fields → ℕ
  tree_fields no_fields = 0
  tree_fields (field n d fs) = tree d + tree_fields fs
