-- Slots that were found there are there, and those that were not are not.
use Rattle.std.proofs.Common.{◌≡◌, inl, inr, ℕ, zero, suc, ◌≤◌, ◌<◌, List, [], ◌∷◌, length, get_or, Option, Some, None, refl, sym, ◌∙◌, ap, subst, arith, slice_get}
use Rattle.std.proofs.lemmas.Bool.{cases_eq}
use Rattle.slab.specs.Slab.{get}
use Rattle.wy_value.specs.Shapes.{named, IsShapes}
use Rattle.wy_value.specs.Datum.{Datum}
use Rattle.wy_value.specs.Datum as datum
use Rattle.wy_value.specs.Values.{names_of, length_of}
use Rattle.wy_heap.specs.declared.part.Part.{Part}
use Rattle.wy_heap.specs.declared.part.Part.TheVariants.{Key}
use Rattle.wy_heap.specs.declared.part.Slot.{Slot}
use Rattle.wy_heap.specs.declared.part.Slot.TheVariants.{Item, Field}
use Rattle.wy_heap.specs.declared.node.Shape.TheVariants as shape
use Rattle.wy_heap.specs.declared.node.Node.{Node}
use Rattle.wy_heap.specs.declared.heap.Heap.{Heap}
use Rattle.wy_heap.specs.Nodes.{list_form, record_form, record_of, form_of, map_of}
use Rattle.wy_heap.specs.Meaning.{Means, IsMeant}
use Rattle.wy_heap.specs.Slots.{item_at, no_step, field_step, step_of, steps_of, position_of, HasStep, HasPath, child, part_at, IsSlot, IsPath}
use Rattle.wy_heap.specs.Numbering.{number_position}
use Rattle.wy_heap.proofs.MeaningLemmas.{mean_all-length, means_unique}
use Rattle.wy_heap.proofs.SlotLemmas.{held_node, node_form, node_parts, position_of-named, child_means}
use Rattle.wy_heap.proofs.CompareLemmas.{numbers_in}
use Rattle.wy_heap.proofs.BuildLemmas.{length-named}

array_step : (h : Heap) (key : ℕ) (n : Node) (i : ℕ) (d : Datum) → get h.nodes key ≡ Some n → n.shape ≡ shape.Array → i < length n.parts.items → Means (map_of h) d (Key key) → HasStep d (item_at i)
array_step h key n i datum.Null was is below means = absurd (cc)
array_step h key n i (datum.Truth b) was is below means = absurd (cc)
array_step h key n i (datum.Whole z) was is below means = absurd (cc)
array_step h key n i (datum.Array items) was is below means =
    let node = held_node h (Key key) key (datum.Array items) refl means in
    omega (arith, mean_all-length (map_of h) node.data_of node.parts node.mean, ap length (node_parts h key n (datum.Array items) node was), ap length_of node.split.1)
array_step h key n i (datum.Record fs) was is below means =
    let node = held_node h (Key key) key (datum.Record fs) refl means in
    let form : list_form ≡ node.form = sym (ap (form_of h.shapes) is) ∙ node_form h key n (datum.Record fs) node was in
    let other = node.split.0 in
    absurd (cc)

pub array_slot : (h : Heap) (key : ℕ) (n : Node) (i : ℕ) → IsMeant (map_of h) (Key key) → get h.nodes key ≡ Some n → n.shape ≡ shape.Array → i < length n.parts.items → IsSlot h (Key key) (Item i)
array_slot h key n i meant was is below = (meant.0, meant.1, array_step h key n i meant.0 was is below meant.1)

at_position : (f : ℕ) (list : List ℕ) → number_position f list < length list → get_or list (number_position f list) 0 ≡ f
at_position f [] below = absurd (omega arith)
at_position f (x ∷ xs) below = elim (cases_eq x f) [
  | inl same ↦ grind (arith, same)
  | inr differ ↦ grind (arith, differ, at_position f xs (grind (arith, differ, below)))
]

some_at : (names : List (List ℕ)) (f : ℕ) → f < length names → slice_get names f ≡ Some (get_or names f [])
some_at [] f below = absurd (omega arith)
some_at (n ∷ ns) zero below = refl
some_at (n ∷ ns) (suc f) below = some_at ns f (omega arith)

record_names : (a b : List (List ℕ)) → record_form a ≡ record_form b → a ≡ b
record_names a b same = cc

record_step : (h : Heap) (key : ℕ) (n : Node) (number f : ℕ) (list : List ℕ) (d : Datum) → IsShapes h.shapes → get h.nodes key ≡ Some n → n.shape ≡ shape.Record number → slice_get h.shapes.lists number ≡ Some list → number_position f list < length list → Means (map_of h) d (Key key) → HasStep d (step_of h.shapes (Field f))
record_step h key n number f list datum.Null table was is found below means = absurd (cc)
record_step h key n number f list (datum.Truth b) table was is found below means = absurd (cc)
record_step h key n number f list (datum.Whole z) table was is found below means = absurd (cc)
record_step h key n number f list (datum.Array items) table was is found below means =
    let node = held_node h (Key key) key (datum.Array items) refl means in
    let form : record_form (named h.shapes.names list) ≡ node.form = ap (record_of h.shapes.names) (sym found) ∙ sym (ap (form_of h.shapes) is) ∙ node_form h key n (datum.Array items) node was in
    let other = node.split.0 in
    absurd (cc)
record_step h key n number f list (datum.Record fs) table was is found below means =
    let names = h.shapes.names in
    let node = held_node h (Key key) key (datum.Record fs) refl means in
    let form : record_form (named names list) ≡ node.form = ap (record_of names) (sym found) ∙ sym (ap (form_of h.shapes) is) ∙ node_form h key n (datum.Record fs) node was in
    let same : named names list ≡ names_of fs = record_names (named names list) (names_of fs) (form ∙ node.split.0) in
    let numbers = numbers_in h.shapes number list table found in
    let inside : f < length names = subst (λ (g : ℕ). g < length names) (at_position f list below) (numbers (number_position f list) below) in
    let place = position_of-named names f list table.names_apart inside numbers in
    let there : position_of (get_or names f []) (names_of fs) < length (names_of fs) =
    subst (λ (l : List (List ℕ)). position_of (get_or names f []) l < length l) same (omega (arith, place, below, length-named names list)) in
    subst (λ o. HasStep (datum.Record fs) (field_step o)) (sym (some_at names f inside)) there

pub record_slot : (h : Heap) (key : ℕ) (n : Node) (number f : ℕ) (list : List ℕ) → IsMeant (map_of h) (Key key) → IsShapes h.shapes → get h.nodes key ≡ Some n → n.shape ≡ shape.Record number → slice_get h.shapes.lists number ≡ Some list → number_position f list < length list → IsSlot h (Key key) (Field f)
record_slot h key n number f list meant table was is found below =
    (meant.0, meant.1, record_step h key n number f list meant.0 table was is found below meant.1)

pub slot_meant : (h : Heap) (p : Part) (s : Slot) → IsSlot h p s → IsMeant (map_of h) (part_at (map_of h) p (step_of h.shapes s))
slot_meant h p s slot = (child slot.0 (step_of h.shapes s), child_means h p slot.0 (step_of h.shapes s) slot.1 slot.2)

pub path_more : (h : Heap) (p : Part) (s : Slot) (rest : List Slot) → IsSlot h p s → IsPath h (part_at (map_of h) p (step_of h.shapes s)) rest → IsPath h p (s ∷ rest)
path_more h p s rest slot path =
    let m = map_of h in
    let step = step_of h.shapes s in
    let same = means_unique m path.0 (child slot.0 step) (part_at m p step) path.1 (child_means h p slot.0 step slot.1 slot.2) in
    (slot.0, slot.1, (slot.2, subst (λ (d : Datum). HasPath d (steps_of h.shapes rest)) same path.2))

-- ---- slots that are not there

array_short : (h : Heap) (key : ℕ) (n : Node) (i : ℕ) (d : Datum) → get h.nodes key ≡ Some n → length n.parts.items ≤ i → Means (map_of h) d (Key key) → HasStep d (item_at i) → ⊥
array_short h key n i datum.Null was beyond means has = has
array_short h key n i (datum.Truth b) was beyond means has = has
array_short h key n i (datum.Whole z) was beyond means has = has
array_short h key n i (datum.Array items) was beyond means has =
    let node = held_node h (Key key) key (datum.Array items) refl means in
    omega (arith, has, mean_all-length (map_of h) node.data_of node.parts node.mean, ap length (node_parts h key n (datum.Array items) node was), ap length_of node.split.1)
array_short h key n i (datum.Record fs) was beyond means has = has

pub array_absent : (h : Heap) (key : ℕ) (n : Node) (i : ℕ) → get h.nodes key ≡ Some n → length n.parts.items ≤ i → IsSlot h (Key key) (Item i) → ⊥
array_absent h key n i was beyond slot = array_short h key n i slot.0 was beyond slot.1 slot.2

some_within : (names : List (List ℕ)) (f : ℕ) (name : List ℕ) → slice_get names f ≡ Some name → (f < length names) × (name ≡ get_or names f [])
some_within [] f name is = absurd (cc)
some_within (n ∷ ns) zero name is = (omega arith, cc)
some_within (n ∷ ns) (suc f) name is = let rest = some_within ns f name is in (omega (arith, rest.0), rest.1)

none_has : (e : Datum) → HasStep e no_step → ⊥
none_has datum.Null has = has
none_has (datum.Truth b) has = has
none_has (datum.Whole z) has = has
none_has (datum.Array items) has = has
none_has (datum.Record fs) has = has

record_named : (h : Heap) (key : ℕ) (n : Node) (number f : ℕ) (list : List ℕ) (d : Datum) (o : Option (List ℕ)) → o ≡ slice_get h.shapes.names f → IsShapes h.shapes → get h.nodes key ≡ Some n → n.shape ≡ shape.Record number → slice_get h.shapes.lists number ≡ Some list → length list ≤ number_position f list → Means (map_of h) d (Key key) → HasStep d (field_step o) → ⊥
record_named h key n number f list d None name table was is found beyond means has = none_has d has
record_named h key n number f list datum.Null (Some name) o table was is found beyond means has = has
record_named h key n number f list (datum.Truth b) (Some name) o table was is found beyond means has = has
record_named h key n number f list (datum.Whole z) (Some name) o table was is found beyond means has = has
record_named h key n number f list (datum.Array items) (Some name) o table was is found beyond means has = has
record_named h key n number f list (datum.Record fs) (Some name) o table was is found beyond means has =
    let names = h.shapes.names in
    let node = held_node h (Key key) key (datum.Record fs) refl means in
    let form : record_form (named names list) ≡ node.form = ap (record_of names) (sym found) ∙ sym (ap (form_of h.shapes) is) ∙ node_form h key n (datum.Record fs) node was in
    let same : named names list ≡ names_of fs = record_names (named names list) (names_of fs) (form ∙ node.split.0) in
    let within = some_within names f name (sym o) in
    let numbers = numbers_in h.shapes number list table found in
    let place = position_of-named names f list table.names_apart within.0 numbers in
    let there : position_of name (named names list) < length (named names list) =
    subst (λ (l : List (List ℕ)). position_of name l < length l) (sym same) has in
    let there2 : position_of (get_or names f []) (named names list) < length (named names list) =
    subst (λ (x : List ℕ). position_of x (named names list) < length (named names list)) within.1 there in
    omega (arith, place, there2, beyond, length-named names list)

pub record_absent : (h : Heap) (key : ℕ) (n : Node) (number f : ℕ) (list : List ℕ) → IsShapes h.shapes → get h.nodes key ≡ Some n → n.shape ≡ shape.Record number → slice_get h.shapes.lists number ≡ Some list → length list ≤ number_position f list → IsSlot h (Key key) (Field f) → ⊥
record_absent h key n number f list table was is found beyond slot =
    record_named h key n number f list slot.0 (slice_get h.shapes.names f) refl table was is found beyond slot.1 slot.2

pub path_less : (h : Heap) (p : Part) (s : Slot) (rest : List Slot) → IsPath h p (s ∷ rest) → IsPath h (part_at (map_of h) p (step_of h.shapes s)) rest
path_less h p s rest path =
    let step = step_of h.shapes s in
    (child path.0 step, child_means h p path.0 step path.1 path.2.0, path.2.1)
