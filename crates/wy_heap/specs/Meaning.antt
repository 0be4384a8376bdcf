-- Which datum a part stands for.
use Rattle.std.specs.Prelude.{◌≡◌, ℕ, List, [], ◌∷◌, Some}
use Rattle.wy_value.specs.Datum.{Datum, Data, no_items, item, Fields, no_fields, field}
use Rattle.wy_value.specs.Datum as datum
use Rattle.wy_value.specs.Values.{names_of}
use Rattle.wy_heap.specs.declared.part.Part.{Part}
use Rattle.wy_heap.specs.declared.part.Part.TheVariants.{Null, Bool, Int, Key}
use Rattle.wy_heap.specs.Nodes.{Form, list_form, record_form, Map, at}

-- the part is a hold on a node of this form, whose parts pass
pub record IsMade (m : Map) (p : Part) (form : Form) (pass : List Part → Type 0) : Type 0 where
  pub key : ℕ
  pub is_key : p ≡ Key key
  pub parts : List Part
  pub is_node : at m key ≡ Some (record { form = form; parts = parts })
  pub pass_all : pass parts

abbrev mutual
  -- the part stands for the datum
  pub Means : Map → Datum → Part → Type 0
  Means m datum.Null p = p ≡ Null
  Means m (datum.Truth b) p = p ≡ Bool b
  Means m (datum.Whole z) p = p ≡ Int z
  Means m (datum.Array items) p = IsMade m p list_form (MeanAll m items)
  Means m (datum.Record fields) p = IsMade m p (record_form (names_of fields)) (MeanFields m fields)

  -- the parts stand for these data, each for the one in its place
  pub MeanAll : Map → Data → List Part → Type 0
  MeanAll m no_items ps = ps ≡ []
  MeanAll m (item d ds) [] = ⊥
  MeanAll m (item d ds) (p ∷ ps) = Means m d p × MeanAll m ds ps

  -- the parts stand for the data of these fields, each for the one in its place
  pub MeanFields : Map → Fields → List Part → Type 0
  MeanFields m no_fields ps = ps ≡ []
  MeanFields m (field n d fs) [] = ⊥
  MeanFields m (field n d fs) (p ∷ ps) = Means m d p × MeanFields m fs ps

-- the data of the fields
abbrev pub data_in : Fields → Data
data_in no_fields = no_items
data_in (field n d fs) = item d (data_in fs)

-- the part stands for some datum
abbrev pub IsMeant : Map → Part → Type 0
IsMeant m p = (d : Datum) × Means m d p

-- the part is a hold on a node of this form, whose parts stand for these data
abbrev pub IsNode : Map → Part → Form → Data → Type 0
IsNode m p form ds = IsMade m p form (MeanAll m ds)

-- the datum is of this form with these data
abbrev pub IsSplit : Datum → Form → Data → Type 0
IsSplit datum.Null form ds = ⊥
IsSplit (datum.Truth b) form ds = ⊥
IsSplit (datum.Whole z) form ds = ⊥
IsSplit (datum.Array items) form ds = (form ≡ list_form) × (ds ≡ items)
IsSplit (datum.Record fs) form ds = (form ≡ record_form (names_of fs)) × (ds ≡ data_in fs)
