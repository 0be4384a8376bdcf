-- The text of a datum from a place on, and what is left to write of a text.
use Rattle.std.specs.Prelude.{◌≡◌, ℕ, ◌+◌, ◌*◌, ◌≤◌, ◌<◌, zero, suc, List, [], ◌∷◌, ◌++◌, length, drop, slice_index_or}
use Rattle.wy_value.specs.Datum.{Datum, Data, no_items, item, Fields, no_fields, field}
use Rattle.wy_value.specs.Datum as datum
use Rattle.wy_value.specs.Shown.{shown, shown_items, more_items, shown_fields, more_fields}
use Rattle.wy_heap.specs.declared.part.Part.{Part}
use Rattle.wy_heap.specs.declared.part.Part.TheVariants.{Key}
use Rattle.wy_heap.specs.declared.node.Shape.{Shape}
use Rattle.wy_heap.specs.declared.node.Shape.TheVariants as shape
use Rattle.wy_heap.specs.Nodes.{Form, list_form, record_form, no_form, Map, at, parts_in}
use Rattle.wy_heap.specs.Meaning.{Means}
use Rattle.wy_heap.specs.Weighing.{total, weight}

-- the bracket before the parts of a node, and the one behind them
abbrev pub opening : Shape → ℕ
opening shape.Array = 91
opening (shape.Record n) = 123

abbrev pub closing : Shape → ℕ
closing shape.Array = 93
closing (shape.Record n) = 125

-- what stands between the parts
abbrev pub separator : ℕ → List ℕ
separator zero = []
separator (suc i) = 44 ∷ 32 ∷ []

-- what stands before the part with this index
abbrev pub lead_of : Form → ℕ → List ℕ
lead_of list_form i = separator i
lead_of (record_form names) i = separator i ++ (slice_index_or names i [] ++ 58 ∷ 32 ∷ [])
lead_of no_form i = separator i

-- the items from an index on
abbrev pub items_from : Data → ℕ → Data
items_from ds zero = ds
items_from no_items (suc i) = no_items
items_from (item d ds) (suc i) = items_from ds i

-- the fields from an index on
abbrev pub fields_from : Fields → ℕ → Fields
fields_from fs zero = fs
fields_from no_fields (suc i) = no_fields
fields_from (field n d fs) (suc i) = fields_from fs i

-- the text behind the bracket, from the part with this index on
abbrev pub shown_from : Datum → ℕ → List ℕ
shown_from (datum.Array items) zero = shown_items items ++ 93 ∷ []
shown_from (datum.Array items) (suc i) = more_items (items_from items (suc i)) ++ 93 ∷ []
shown_from (datum.Record fs) zero = shown_fields fs ++ 125 ∷ []
shown_from (datum.Record fs) (suc i) = more_fields (fields_from fs (suc i)) ++ 125 ∷ []
shown_from _ i = []

-- a node, of which the parts from a place on are still to be written
abbrev pub Rest : Type 0
Rest = ℕ × ℕ

-- this text is left to write of the node
abbrev pub IsLeft : Map → Rest → List ℕ → Type 0
IsLeft m rest t = (d : Datum) × Means m d (Key rest.0) × (rest.1 ≤ length (parts_in (at m rest.0))) × (t ≡ shown_from d rest.1)

-- this text is left to write of the nodes, the last first
abbrev pub AreLeft : Map → List Rest → List ℕ → Type 0
AreLeft m [] t = t ≡ []
AreLeft m (r ∷ rs) t = (a : List ℕ) × (b : List ℕ) × IsLeft m r a × AreLeft m rs b × (t ≡ b ++ a)

-- the text of a part's datum
abbrev pub IsText : Map → Part → List ℕ → Type 0
IsText m p t = (d : Datum) × Means m d p × (t ≡ shown d)

-- the work of writing the parts of a node from the place on
abbrev pub rest_work : Map → Rest → ℕ
rest_work m rest = 1 + 2 * total (weight m) (drop rest.1 (parts_in (at m rest.0)))

abbrev pub rest_works : Map → List Rest → ℕ
rest_works m [] = 0
rest_works m (r ∷ rs) = rest_work m r + rest_works m rs

-- a beginning of the wanted text was written, and the end of it is left to these nodes, which are less work
pub record GoesOn (m : Map) (wanted : List ℕ → Type 0) (most : ℕ) (old new : List Rest) (before after : List ℕ) : Type 0 where
  pub more : List Rest
  pub is : new ≡ old ++ more
  pub wrote : List ℕ
  pub out : after ≡ before ++ wrote
  pub rest : (t : List ℕ) → wanted t → (r : List ℕ) × AreLeft m more r × (t ≡ wrote ++ r)
  pub less : rest_works m more < most
