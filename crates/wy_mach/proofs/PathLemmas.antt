-- What is on a path, as the heap finds it and as the step on values does.
use Rattle.std.proofs.Common.{◌≡◌, ℕ, zero, suc, ◌+◌, ◌<◌, List, [], ◌∷◌, length, Bool, true, false, cond, Option, Some, None, IsSome, refl, sym, ◌∙◌, ap, subst, arith}
use Rattle.std.specs.Prelude.{bytes_eq, if◌then◌else◌, slice_get, nat_lt, is_some, min}
use Rattle.std.proofs.lemmas.Bool.Decides.{nat_tests}
use Rattle.slab.specs.Slab.{get}
use Rattle.wy_lemmas.proofs.Choices.{both_parts as both_true}
use Rattle.wy_lemmas.proofs.Numbers.{one_more}
use Rattle.wy_value.specs.Datum.{Datum, Null, Truth, Whole, Array, Record, Data, no_items, item, Fields, no_fields, field}
use Rattle.wy_value.specs.Values.{length_of, names_of}
use Rattle.wy_value.specs.declared.shapes.Shapes.{Shapes}
use Rattle.wy_heap.specs.declared.part.Part.{Part}
use Rattle.wy_heap.specs.declared.part.Part.TheVariants as heap_part
use Rattle.wy_heap.specs.declared.part.Slot as of_heap
use Rattle.wy_heap.specs.declared.part.Slot.TheVariants as heap_slot
use Rattle.wy_heap.specs.declared.node.Node.{Node}
use Rattle.wy_heap.specs.declared.heap.Heap.{Heap}
use Rattle.wy_heap.specs.Nodes.{map_of}
use Rattle.wy_heap.specs.Meaning.{Means}
use Rattle.wy_heap.specs.Slots as heap_slots
use Rattle.wy_heap.specs.Slots.{Step, field_step, step_of, steps_of, HasStep, HasPath, child, nth, put_nth, put_field, put_step, position_of}
use Rattle.wy_heap.proofs.SlotLemmas.{child_means, means_there}
use Rattle.wy_heap.proofs.BuildLemmas.{len_is}
use Rattle.wy_sem.specs.Operations.{set_item, find, set_field, or_null, Slot, ItemSlot, FieldSlot, part_at, with_part, updated}
use Rattle.wy_code_spec.specs.step.Step.{has_part, has_path}
use Rattle.wy_mach.proofs.FieldLemmas.{nth-item_at, find-nth, find_within}

-- ---- slots

-- the slot of a value is this one of the heap; the greatest index stands for each beyond it
abbrev pub IsSame : Shapes → Slot → of_heap.Slot → Type 0
IsSame t (ItemSlot i) (heap_slot.Item j) = j ≡ min i 18446744073709551615
IsSame t (ItemSlot i) (heap_slot.Field f) = ⊥
IsSame t (FieldSlot name) (heap_slot.Item j) = ⊥
IsSame t (FieldSlot name) (heap_slot.Field f) = slice_get t.names f ≡ Some name

-- each is the one in its place
abbrev pub AreSame : Shapes → List Slot → List of_heap.Slot → Type 0
AreSame t [] path = path ≡ []
AreSame t (x ∷ xs) [] = ⊥
AreSame t (x ∷ xs) (s ∷ path) = IsSame t x s × AreSame t xs path

-- ---- arrays aren't as long as the greatest index

some_there : (o : Option Node) → IsSome o → (n : Node) × (o ≡ Some n)
some_there None there_is = absurd (cc)
some_there (Some n) there_is = (n, refl)

items_of : (n : Node) → length n.parts.items < 9223372036854775808
items_of n = omega (arith, n.parts.ok, n.parts.small)

long_within : (h : Heap) (p : Part) (ds : Data) → Means (map_of h) (Array ds) p → length_of ds < 9223372036854775808
long_within h p ds means =
    let there_is = subst (λ (q : Part). Means (map_of h) (Array ds) q) means.is_key means in
    let node = some_there (get h.nodes means.key) (means_there h (Array ds) (heap_part.Key means.key) there_is) in
    omega (arith, items_of node.0, len_is h p means.key node.0 ds means.is_key node.1 means)

-- ---- what is put

put_nth-set_item : (ds : Data) (i : ℕ) (u : Datum) → put_nth ds i u ≡ set_item ds i u
put_nth-set_item no_items i u = refl
put_nth-set_item (item d ds) zero u = refl
put_nth-set_item (item d ds) (suc i) u = ap (item d) (put_nth-set_item ds i u)

put_field-next : (n : List ℕ) (d : Datum) (fs : Fields) (i : ℕ) (u : Datum) → put_field (field n d fs) (i + 1) u ≡ field n d (put_field fs i u)
put_field-next n d fs i u = ap (λ (j : ℕ). put_field (field n d fs) j u) (one_more i)

put_field-at : (b : Bool) (n : List ℕ) (d : Datum) (fs gs : Fields) (i : ℕ) (u : Datum) → put_field fs i u ≡ gs → put_field (field n d fs) (if b then 0 else (i + 1)) u ≡ cond b (field n u fs) (field n d gs)
put_field-at true n d fs gs i u is = refl
put_field-at false n d fs gs i u is = put_field-next n d fs i u ∙ ap (field n d) is

put_field-set_field : (fs : Fields) (name : List ℕ) (u : Datum) → put_field fs (position_of name (names_of fs)) u ≡ set_field fs name u
put_field-set_field no_fields name u = refl
put_field-set_field (field n d fs) name u = put_field-at (bytes_eq n name) n d fs (set_field fs name u) (position_of name (names_of fs)) u (put_field-set_field fs name u)

some_found : (o : Option Datum) → is_some o ≡ true → (d : Datum) × (o ≡ Some d)
some_found None is = absurd (cc)
some_found (Some d) is = (d, refl)

-- ---- one step

-- the datum has what the step leads to, the same as the slot
pub record Leads (d : Datum) (step : Step) (x : Slot) : Type 0 where
  pub has : HasStep d step
  pub child_is : child d step ≡ part_at x d
  pub put_is : (u : Datum) → put_step d step u ≡ with_part x d u

item_leads : (h : Heap) (p : Part) (ds : Data) (i j : ℕ) → Means (map_of h) (Array ds) p → j ≡ min i 18446744073709551615 → nat_lt i (length_of ds) ≡ true → Leads (Array ds) (heap_slots.item_at j) (ItemSlot i)
item_leads h p ds i j means is within =
    let below : i < length_of ds = grind (arith, nat_tests) in
    let same : i ≡ j = omega (arith, long_within h p ds means, below, is) in
    subst (λ (k : ℕ). Leads (Array ds) (heap_slots.item_at k) (ItemSlot i)) same (record {
      has = below;
      child_is = nth-item_at ds i;
      put_is = λ u. ap Array (put_nth-set_item ds i u);
    })

field_leads : (fs : Fields) (name : List ℕ) (o : Option (List ℕ)) → o ≡ Some name → is_some (find fs name) ≡ true → Leads (Record fs) (field_step o) (FieldSlot name)
field_leads fs name o is found =
    let part = some_found (find fs name) found in
    subst (λ (q : Option (List ℕ)). Leads (Record fs) (field_step q) (FieldSlot name)) (sym is) (record {
      has = find_within fs name part.0 part.1;
      child_is = find-nth fs name part.0 part.1 ∙ sym (ap or_null part.1);
      put_is = λ u. ap Record (put_field-set_field fs name u);
    })

part_leads : (h : Heap) (p : Part) (d : Datum) (x : Slot) (s : of_heap.Slot) → Means (map_of h) d p → IsSame h.shapes x s → has_part x d ≡ true → Leads d (step_of h.shapes s) x
part_leads h p Null (ItemSlot i) s means same has = absurd (cc)
part_leads h p (Truth b) (ItemSlot i) s means same has = absurd (cc)
part_leads h p (Whole z) (ItemSlot i) s means same has = absurd (cc)
part_leads h p (Record fs) (ItemSlot i) s means same has = absurd (cc)
part_leads h p (Array ds) (ItemSlot i) (heap_slot.Item j) means same has = item_leads h p ds i j means same has
part_leads h p (Array ds) (ItemSlot i) (heap_slot.Field f) means same has = absurd same
part_leads h p Null (FieldSlot name) s means same has = absurd (cc)
part_leads h p (Truth b) (FieldSlot name) s means same has = absurd (cc)
part_leads h p (Whole z) (FieldSlot name) s means same has = absurd (cc)
part_leads h p (Array ds) (FieldSlot name) s means same has = absurd (cc)
part_leads h p (Record fs) (FieldSlot name) (heap_slot.Item j) means same has = absurd same
part_leads h p (Record fs) (FieldSlot name) (heap_slot.Field f) means same has = field_leads fs name (slice_get h.shapes.names f) same has

-- ---- paths

-- the datum has each step of the path, and the second one is put where the step on values puts it
pub record LeadsAlong (d : Datum) (path : List Step) (xs : List Slot) : Type 0 where
  pub has : HasPath d path
  pub put_is : (u : Datum) → heap_slots.put d path u ≡ updated d xs u

along_more : (h : Heap) (d : Datum) (x : Slot) (xs : List Slot) (step : Step) (path : List Step) → Leads d step x → LeadsAlong (part_at x d) path xs → LeadsAlong d (step ∷ path) (x ∷ xs)
along_more h d x xs step path first rest = record {
  has = (first.has, subst (λ (e : Datum). HasPath e path) (sym first.child_is) rest.has);
  put_is = λ u.
      let below : heap_slots.put (child d step) path u ≡ updated (part_at x d) xs u = ap (λ (e : Datum). heap_slots.put e path u) first.child_is ∙ rest.put_is u in
      ap (put_step d step) below ∙ first.put_is (updated (part_at x d) xs u);
}

pub path_leads : (h : Heap) (p : Part) (d : Datum) (xs : List Slot) (path : List of_heap.Slot) → Means (map_of h) d p → AreSame h.shapes xs path → has_path xs d ≡ true → LeadsAlong d (steps_of h.shapes path) xs
path_leads h p d [] path means same has =
    subst (λ (l : List of_heap.Slot). LeadsAlong d (steps_of h.shapes l) []) (sym same) (record { has = tt; put_is = λ u. refl })
path_leads h p d (x ∷ xs) [] means same has = absurd same
path_leads h p d (x ∷ xs) (s ∷ path) means same has =
    let both = both_true (has_part x d) (has_path xs (part_at x d)) has in
    let first = part_leads h p d x s means same.0 both.0 in
    let step = step_of h.shapes s in
    let below : Means (map_of h) (part_at x d) (heap_slots.part_at (map_of h) p step) =
    subst (λ (e : Datum). Means (map_of h) e (heap_slots.part_at (map_of h) p step)) first.child_is (child_means h p d step means first.has) in
    along_more h d x xs step (steps_of h.shapes path) first (path_leads h (heap_slots.part_at (map_of h) p step) (part_at x d) xs path below same.1 both.1)
