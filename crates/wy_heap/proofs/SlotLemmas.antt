-- Where a slot lies in a node, and what is in it.
use Rattle.std.proofs.Common.{◌≡◌, inl, inr, ℕ, suc, ◌+◌, ◌<◌, List, [], ◌∷◌, length, get_or, Option, Some, None, IsSome, refl, sym, ◌∙◌, ap, subst, arith, ◌==◌, if◌then◌else◌, slice_get}
use Rattle.std.specs.Str.{bytes_eq}
use Rattle.std.specs.Cmp.{unsigned_Decides}
use Rattle.std.proofs.lemmas.Bool.{cases_eq, cases_lt}
use Rattle.std.proofs.lemmas.Bool.Decides.{same_from_decides}
use Rattle.std.proofs.lemmas.Slice.Eq.{bytes_eq-Decides}
use Rattle.std.proofs.lemmas.Option.{slice_get_within, get_or_from_slice_get}
use Rattle.slab.specs.Slab.{get}
use Rattle.wy_value.specs.Shapes.{named, AreApart, IsShapes}
use Rattle.wy_value.specs.Datum.{Datum, Data, no_items, item, Fields, no_fields, field}
use Rattle.wy_value.specs.Datum as datum
use Rattle.wy_value.specs.Values.{names_of, length_of}
use Rattle.wy_heap.specs.declared.part.Part.{Part}
use Rattle.wy_heap.specs.declared.part.Part.TheVariants.{Null, Key}
use Rattle.wy_heap.specs.declared.part.Slot.TheVariants.{Field}
use Rattle.wy_heap.specs.declared.node.Shape.{Shape}
use Rattle.wy_heap.specs.declared.node.Shape.TheVariants as shape
use Rattle.wy_heap.specs.declared.node.Node.{Node}
use Rattle.wy_heap.specs.declared.heap.Heap.{Heap}
use Rattle.wy_heap.specs.Nodes.{Form, record_form, no_form, record_of, form_of, Body, Map, body_of, map_of, at, form_in, parts_in}
use Rattle.wy_heap.specs.Meaning.{data_in, Means, MeanAll, IsSplit}
use Rattle.wy_heap.specs.Slots.{Step, item_at, field_named, no_step, field_step, step_of, position_of, nth, HasStep, child, put_step, place_in, part_of, part_at}
use Rattle.wy_heap.specs.Parts.{IsThere}
use Rattle.wy_heap.specs.Changing.{IsNodeSlot}
use Rattle.wy_heap.specs.Numbering.{number_position}
use Rattle.wy_heap.proofs.ChangeLemmas.{at-map_of, contains_from_at}
use Rattle.wy_heap.proofs.MeaningLemmas.{mean_all-length, mean_all-nth, split_of, node_from_means, node_at}
use Rattle.wy_heap.proofs.WriteLemmas.{put_at}

-- ---- the table

pub apart_same : (names : List (List ℕ)) (f g : ℕ) → AreApart names → f < length names → g < length names → get_or names g [] ≡ get_or names f [] → g ≡ f
apart_same names f g apart inside other same = elim (cases_eq g f) [
  | inl e ↦ e
  | inr differ ↦ elim (cases_lt g f) [
    | inl below ↦ absurd (apart g f [] below inside same)
    | inr above ↦ absurd (apart f g [] (omega (arith, differ)) other (sym same))
  ]
]

same_test : (names : List (List ℕ)) (f g : ℕ) → AreApart names → f < length names → g < length names → bytes_eq (get_or names g []) (get_or names f []) ≡ (g == f)
same_test names f g apart inside other =
    let d = bytes_eq-Decides (get_or names g []) (get_or names f []) in
    same_from_decides {P = g ≡ f} (bytes_eq (get_or names g []) (get_or names f [])) (g == f)
    ((λ e. apart_same names f g apart inside other (d.0 e)), (λ e. d.1 (ap (λ (i : ℕ). get_or names i []) e)))
    (unsigned_Decides g f)

-- a name stands in a shape where its number does
pub position_of-named : (names : List (List ℕ)) (f : ℕ) (list : List ℕ) → AreApart names → f < length names → ((k : ℕ) → k < length list → get_or list k 0 < length names) → position_of (get_or names f []) (named names list) ≡ number_position f list
position_of-named names f [] apart inside all = refl
position_of-named names f (g ∷ gs) apart inside all =
    let rest = position_of-named names f gs apart inside (λ k below. all (suc k) (omega arith)) in
    ap (λ b. if b then 0 else (position_of (get_or names f []) (named names gs) + 1)) (same_test names f g apart inside (all 0 (omega arith)))
    ∙ ap (λ (n : ℕ). if (g == f) then 0 else (n + 1)) rest

pub record_known : (names : List (List ℕ)) (o : Option (List ℕ)) → (record_of names o ≡ no_form → ⊥) → (list : List ℕ) × (o ≡ Some list)
record_known names None known = absurd (known refl)
record_known names (Some list) known = (list, refl)

pub split_known : (d : Datum) (form : Form) (ds : Data) → IsSplit d form ds → form ≡ no_form → ⊥
split_known datum.Null form ds split none = split
split_known (datum.Truth b) form ds split none = split
split_known (datum.Whole z) form ds split none = split
split_known (datum.Array items) form ds split none = let e = split.0 in cc
split_known (datum.Record fs) form ds split none = let e = split.0 in cc

-- ---- a node and what stands for it

-- a hold on a node that stands for a datum
pub record Held_node (h : Heap) (key : ℕ) (d : Datum) : Type 0 where
  pub form : Form
  pub data_of : Data
  pub split : IsSplit d form data_of
  pub parts : List Part
  pub is : at (map_of h) key ≡ Some (record { form = form; parts = parts })
  pub mean : MeanAll (map_of h) data_of parts

pub held_node : (h : Heap) (p : Part) (key : ℕ) (d : Datum) → p ≡ Key key → Means (map_of h) d p → Held_node h key d
held_node h p key d is means =
    let split = split_of (map_of h) d p key is means in
    let node = node_at (map_of h) p key split.form split.data_of is (node_from_means (map_of h) d p split.form split.data_of split.is means) in
    record { form = split.form; data_of = split.data_of; split = split.is; parts = node.parts; is = node.is; mean = node.mean }

pub body-node : (h : Heap) (key : ℕ) (n : Node) → get h.nodes key ≡ Some n → at (map_of h) key ≡ Some (record { form = form_of h.shapes n.shape; parts = n.parts.items })
body-node h key n was = at-map_of h key ∙ ap (body_of h.shapes) was

-- the form of a node that stands for a datum, by the node's shape
pub node_form : (h : Heap) (key : ℕ) (n : Node) (d : Datum) (node : Held_node h key d) → get h.nodes key ≡ Some n → form_of h.shapes n.shape ≡ node.form
node_form h key n d node was = ap form_in (sym (body-node h key n was) ∙ node.is)

pub node_parts : (h : Heap) (key : ℕ) (n : Node) (d : Datum) (node : Held_node h key d) → get h.nodes key ≡ Some n → n.parts.items ≡ node.parts
node_parts h key n d node was = ap parts_in (sym (body-node h key n was) ∙ node.is)

-- the table has the shape of a record that stands for a datum
pub shape_known : (h : Heap) (key : ℕ) (n : Node) (number : ℕ) (d : Datum) → get h.nodes key ≡ Some n → n.shape ≡ shape.Record number → Means (map_of h) d (Key key) → (list : List ℕ) × (slice_get h.shapes.lists number ≡ Some list)
shape_known h key n number d was is means =
    let node = held_node h (Key key) key d refl means in
    let form = sym (ap (form_of h.shapes) is) ∙ node_form h key n d node was in
    record_known h.shapes.names (slice_get h.shapes.lists number) (λ none. split_known d node.form node.data_of node.split (sym form ∙ none))

-- ---- where a slot lies

pub data_in-length : (fs : Fields) → length_of (data_in fs) ≡ length (names_of fs)
data_in-length no_fields = refl
data_in-length (field n d fs) = omega (arith, data_in-length fs)

pub place_within : (d : Datum) (form : Form) (ds : Data) (s : Step) → IsSplit d form ds → HasStep d s → place_in form s < length_of ds
place_within datum.Null form ds s split has = absurd split
place_within (datum.Truth b) form ds s split has = absurd split
place_within (datum.Whole z) form ds s split has = absurd split
place_within (datum.Array items) form ds (item_at i) split has = omega (arith, has, ap (λ (f : Form). place_in f (item_at i)) split.0, ap length_of split.1)
place_within (datum.Array items) form ds (field_named name) split has = absurd has
place_within (datum.Array items) form ds no_step split has = absurd has
place_within (datum.Record fs) form ds (item_at i) split has = absurd has
place_within (datum.Record fs) form ds (field_named name) split has = omega (arith, has, ap (λ (f : Form). place_in f (field_named name)) split.0, ap length_of split.1, data_in-length fs)
place_within (datum.Record fs) form ds no_step split has = absurd has

pub child-nth : (d : Datum) (form : Form) (ds : Data) (s : Step) → IsSplit d form ds → HasStep d s → child d s ≡ nth ds (place_in form s)
child-nth datum.Null form ds s split has = absurd split
child-nth (datum.Truth b) form ds s split has = absurd split
child-nth (datum.Whole z) form ds s split has = absurd split
child-nth (datum.Array items) form ds (item_at i) split has = ap (λ (es : Data). nth es i) (sym split.1) ∙ ap (λ (f : Form). nth ds (place_in f (item_at i))) (sym split.0)
child-nth (datum.Array items) form ds (field_named name) split has = absurd has
child-nth (datum.Array items) form ds no_step split has = absurd has
child-nth (datum.Record fs) form ds (item_at i) split has = absurd has
child-nth (datum.Record fs) form ds (field_named name) split has = ap (λ (es : Data). nth es (position_of name (names_of fs))) (sym split.1) ∙ ap (λ (f : Form). nth ds (place_in f (field_named name))) (sym split.0)
child-nth (datum.Record fs) form ds no_step split has = absurd has

pub put_step-put_at : (d : Datum) (form : Form) (ds : Data) (s : Step) (u : Datum) → IsSplit d form ds → HasStep d s → put_step d s u ≡ put_at d (place_in form s) u
put_step-put_at datum.Null form ds s u split has = absurd split
put_step-put_at (datum.Truth b) form ds s u split has = absurd split
put_step-put_at (datum.Whole z) form ds s u split has = absurd split
put_step-put_at (datum.Array items) form ds (item_at i) u split has = ap (λ (f : Form). put_at (datum.Array items) (place_in f (item_at i)) u) (sym split.0)
put_step-put_at (datum.Array items) form ds (field_named name) u split has = absurd has
put_step-put_at (datum.Array items) form ds no_step u split has = absurd has
put_step-put_at (datum.Record fs) form ds (item_at i) u split has = absurd has
put_step-put_at (datum.Record fs) form ds (field_named name) u split has = ap (λ (f : Form). put_at (datum.Record fs) (place_in f (field_named name)) u) (sym split.0)
put_step-put_at (datum.Record fs) form ds no_step u split has = absurd has

-- the slot is in the node's parts
pub slot_there : (h : Heap) (p : Part) (key : ℕ) (d : Datum) (s : Step) (place : ℕ) → p ≡ Key key → Means (map_of h) d p → HasStep d s → place ≡ place_in (form_in (at (map_of h) key)) s → IsNodeSlot (map_of h) key place
slot_there h p key d s place is means has lies =
    let node = held_node h p key d is means in
    record {
      body = record { form = node.form; parts = node.parts };
      was = node.is;
      within = omega (arith, lies, place_within d node.form node.data_of s node.split has, ap (λ (o : Option Body). place_in (form_in o) s) node.is, mean_all-length (map_of h) node.data_of node.parts node.mean);
    }

-- only a hold has slots
pub step_key : (m : Map) (d : Datum) (p : Part) (s : Step) → Means m d p → HasStep d s → (k : ℕ) × (p ≡ Key k)
step_key m datum.Null p s means has = absurd has
step_key m (datum.Truth b) p s means has = absurd has
step_key m (datum.Whole z) p s means has = absurd has
step_key m (datum.Array items) p s means has = (means.key, means.is_key)
step_key m (datum.Record fs) p s means has = (means.key, means.is_key)

-- what is in a slot stands for what the step leads to
pub child_means : (h : Heap) (p : Part) (d : Datum) (s : Step) → Means (map_of h) d p → HasStep d s → Means (map_of h) (child d s) (part_at (map_of h) p s)
child_means h p d s means has =
    let key = step_key (map_of h) d p s means has in
    let node = held_node h p key.0 d key.1 means in
    let below : place_in node.form s < length node.parts = omega (arith, place_within d node.form node.data_of s node.split has, mean_all-length (map_of h) node.data_of node.parts node.mean) in
    let found : part_at (map_of h) p s ≡ get_or node.parts (place_in node.form s) Null =
    ap (λ (q : Part). part_at (map_of h) q s) key.1 ∙ ap (λ (o : Option Body). part_of o (place_in (form_in o) s)) node.is in
    subst (λ (e : Datum). Means (map_of h) e (part_at (map_of h) p s)) (sym (child-nth d node.form node.data_of s node.split has))
    (subst (Means (map_of h) (nth node.data_of (place_in node.form s))) (sym found) (mean_all-nth (map_of h) node.data_of node.parts (place_in node.form s) node.mean below))

-- a part that stands for a datum is there
pub means_there : (h : Heap) (d : Datum) (q : Part) → Means (map_of h) d q → IsThere h q
means_there h datum.Null q means = subst (IsThere h) (sym means) tt
means_there h (datum.Truth b) q means = subst (IsThere h) (sym means) tt
means_there h (datum.Whole z) q means = subst (IsThere h) (sym means) tt
means_there h (datum.Array items) q means =
    subst (IsThere h) (sym means.is_key) (contains_from_at h means.key (subst IsSome (sym means.is_node) refl))
means_there h (datum.Record fs) q means =
    subst (IsThere h) (sym means.is_key) (contains_from_at h means.key (subst IsSome (sym means.is_node) refl))

-- ---- the place that `position` finds

step_name : (names : List (List ℕ)) (f : ℕ) (d : Datum) → HasStep d (field_step (slice_get names f)) → (name : List ℕ) × (slice_get names f ≡ Some name)
step_name names f d has = known (slice_get names f) d has
  where
    known : (o : Option (List ℕ)) (d : Datum) → HasStep d (field_step o) → (name : List ℕ) × (o ≡ Some name)
    known None datum.Null has = absurd has
    known None (datum.Truth b) has = absurd has
    known None (datum.Whole z) has = absurd has
    known None (datum.Array items) has = absurd has
    known None (datum.Record fs) has = absurd has
    known (Some name) d has = (name, refl)

pub field_place : (h : Heap) (key : ℕ) (n : Node) (number f : ℕ) (d : Datum) (list : List ℕ) → IsShapes h.shapes → get h.nodes key ≡ Some n → n.shape ≡ shape.Record number → HasStep d (step_of h.shapes (Field f)) → slice_get h.shapes.lists number ≡ Some list → number_position f list ≡ place_in (form_in (at (map_of h) key)) (step_of h.shapes (Field f))
field_place h key n number f d list table was is has found =
    let name = step_name h.shapes.names f d has in
    let inside = slice_get_within h.shapes.names f name.0 name.1 in
    let same : get_or h.shapes.names f [] ≡ name.0 = get_or_from_slice_get h.shapes.names f name.0 [] name.1 in
    let numbers : (k : ℕ) → k < length list → get_or list k 0 < length h.shapes.names =
    λ k below. subst (λ (l : List ℕ). k < length l → get_or l k 0 < length h.shapes.names) (get_or_from_slice_get h.shapes.lists number list [] found)
    (table.numbers number [] (slice_get_within h.shapes.lists number list found) k 0) below in
    let place = position_of-named h.shapes.names f list table.names_apart inside numbers in
    sym (ap (λ (o : Option Body). place_in (form_in o) (step_of h.shapes (Field f))) (body-node h key n was)
    ∙ ap (λ (s : Shape). place_in (form_of h.shapes s) (step_of h.shapes (Field f))) is
    ∙ ap (λ (o : Option (List ℕ)). place_in (record_of h.shapes.names o) (step_of h.shapes (Field f))) found
    ∙ ap (λ (o : Option (List ℕ)). place_in (record_form (named h.shapes.names list)) (field_step o)) name.1
    ∙ ap (λ (l : List ℕ). position_of l (named h.shapes.names list)) (sym same)
    ∙ place)
