-- A variable with another value at the end of a path: its term means the updated value.
use Rattle.std.specs.Prelude.{◌≡◌, ℕ, List, [], ◌∷◌, Bool, true, Some, pos}
use Rattle.wy_term_subst.specs.wy_value.Datum.{Datum, Null, Truth, Whole, Array, Record}
use Rattle.wy_term_subst.specs.wy_value.Values.{Rise, names_of}
use Rattle.wy_term_subst.specs.wy_term.Term.{Term}
use Rattle.wy_term_subst.specs.wy_term.Meaning.{Names}
use Rattle.wy_vc_spec.specs.wy_sem.Operations.{is_index, item_at, find, Slot, ItemSlot, FieldSlot, updated}
use Rattle.wy_vc_spec.specs.Statements.{Part, ElementOf, FieldOf, rebuilt}
use Rattle.wy_sound_terms.specs.operations.Agreement.{datum_of}

-- the terms of an array and of an index mean this array, at this index, which is that of an item; so on from there
abbrev pub LeadsItem : Names → Term → Term → ℕ → Datum → (Datum → Type 0) → Type 0
LeadsItem names whole i k Null rest = ⊥
LeadsItem names whole i k (Truth b) rest = ⊥
LeadsItem names whole i k (Whole z) rest = ⊥
LeadsItem names whole i k (Array ds) rest = (datum_of names whole ≡ Array ds) × (datum_of names i ≡ Whole (pos k)) × (is_index (pos k) ds ≡ true) × rest (item_at ds k)
LeadsItem names whole i k (Record fs) rest = ⊥

-- the term of a record means this one, whose names rise and which has the field; so on from there
abbrev pub LeadsField : Names → Term → List ℕ → Datum → (Datum → Type 0) → Type 0
LeadsField names whole name Null rest = ⊥
LeadsField names whole name (Truth b) rest = ⊥
LeadsField names whole name (Whole z) rest = ⊥
LeadsField names whole name (Array ds) rest = ⊥
LeadsField names whole name (Record fs) rest = (datum_of names whole ≡ Record fs) × Rise (names_of fs) × ((part : Datum) × (find fs name ≡ Some part) × rest part)

-- the parts, by their terms, lead into the datum as the steps do
abbrev pub Leads : Names → List Part → List Slot → Datum → Type 0
Leads names [] [] d = Unit {0}
Leads names [] (slot ∷ slots) d = ⊥
Leads names (part ∷ parts) [] d = ⊥
Leads names (ElementOf whole i ∷ parts) (ItemSlot k ∷ slots) d = LeadsItem names whole i k d (Leads names parts slots)
Leads names (ElementOf whole i ∷ parts) (FieldSlot name ∷ slots) d = ⊥
Leads names (FieldOf name whole ∷ parts) (ItemSlot k ∷ slots) d = ⊥
Leads names (FieldOf name whole ∷ parts) (FieldSlot n ∷ slots) d = (n ≡ name) × LeadsField names whole name d (Leads names parts slots)

abbrev pub UpdatesAgree : Type 0
UpdatesAgree = (names : Names) (parts : List Part) (slots : List Slot) (d : Datum) (v : Term) → Leads names parts slots d → datum_of names (rebuilt parts v) ≡ updated d slots (datum_of names v)
