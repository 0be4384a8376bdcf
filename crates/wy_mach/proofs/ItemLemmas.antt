-- An item of what a register holds comes into another one.
use Rattle.std.proofs.Common.{◌≡◌, ℕ, ◌<◌, ◌≤◌, List, [], ◌∷◌, length, get_or, set, Bool, true, false, Option, Some, None, ℤ, pos, negsuc, refl, sym, ◌∙◌, ap, subst, arith}
use Rattle.std.proofs.lemmas.Bool.Decides.{nat_tests}
use Rattle.wy_mach.proofs.FieldLemmas.{nth-item_at}
use Rattle.wy_value.specs.Datum.{Datum, Null, Truth, Whole, Array, Record, Data}
use Rattle.wy_value.specs.Values.{length_of}
use Rattle.wy_heap.specs.declared.part.Part.{Part}
use Rattle.wy_heap.specs.declared.part.Part.TheVariants as part
use Rattle.wy_heap.specs.declared.heap.Heap.{Heap}
use Rattle.wy_heap.specs.Nodes.{map_of}
use Rattle.wy_heap.specs.Meaning.{Means}
use Rattle.wy_heap.specs.Slots as slots
use Rattle.wy_heap.specs.Slots.{HasStep, child}
use Rattle.wy_heap.specs.Standing.{Stands}
use Rattle.wy_heap.proofs.RowLemmas.{first_meant}
use Rattle.wy_sem.specs.Operations.{item_at, nat_of, is_index}
use Rattle.wy_sem.specs.Expressions.{Store, slot}
use Rattle.wy_code_spec.specs.step.Step.{Effect, Fails, there, as_items, as_number, where_so, gives}
use Rattle.wy_mach.specs.declared.stop.Stop.{Stop}
use Rattle.wy_mach.specs.declared.stop.Stop.TheVariants.{Stuck, NoMemory}
use Rattle.wy_mach.specs.Showing.{Leaves, WentOn, HasNone, IsStop, AreRegisters, Puts}
use Rattle.wy_mach.specs.Operands.{number_in, Reads}
use Rattle.wy_mach.specs.Looking.{length_in, IsItem}
use Rattle.wy_mach.proofs.RegisterLemmas.{shows_slot, slot_within}
use Rattle.wy_mach.proofs.MoveLemmas.{Seconds, second_shows}

-- ---- whether an item is there

has_item : (d : Datum) (n i : ℕ) → Some n ≡ length_in (Some d) → i < n → HasStep d (slots.item_at i)
has_item Null n i is below = absurd (cc)
has_item (Truth b) n i is below = absurd (cc)
has_item (Whole z) n i is below = absurd (cc)
has_item (Array ds) n i is below = let same : n ≡ length_of ds = cc in omega (arith, same, below)
has_item (Record fs) n i is below = absurd (cc)

pub item_there : (h : Heap) (p : Part) (others : List Part) (n i : ℕ) → Stands h (p ∷ others) → ((d : Datum) → Means (map_of h) d p → Some n ≡ length_in (Some d)) → i < n → IsItem h p i
item_there h p others n i stands of below =
    let d = first_meant h p others stands in
    (d.0, d.1, has_item d.0 n i (of d.0 d.1) below)

item_length : (d : Datum) (i : ℕ) (r : Option ℕ) → HasStep d (slots.item_at i) → r ≡ length_in (Some d) → (n : ℕ) × (r ≡ Some n) × (i < n)
item_length Null i r has is = absurd has
item_length (Truth b) i r has is = absurd has
item_length (Whole z) i r has is = absurd has
item_length (Array ds) i r has is = (length_of ds, is, has)
item_length (Record fs) i r has is = absurd has

pub item_within : (h : Heap) (p : Part) (n i : ℕ) → ((d : Datum) → Means (map_of h) d p → Some n ≡ length_in (Some d)) → IsItem h p i → i < n
item_within h p n i of there_is =
    let long = item_length there_is.0 i (Some n) there_is.2 (of there_is.0 there_is.1) in
    let same : n ≡ long.0 = let e = long.1 in cc in
    omega (arith, same, long.2)

pub item_somewhere : (h : Heap) (p : Part) (i : ℕ) → ((d : Datum) → Means (map_of h) d p → None ≡ length_in (Some d)) → IsItem h p i → ⊥
item_somewhere h p i of there_is = let long = item_length there_is.0 i None there_is.2 (of there_is.0 there_is.1) in let e = long.1 in cc

-- ---- the effect of `Get`

pub by_where : (P : Effect → Type 0) (b : Bool) (next : Effect) → P Fails → (b ≡ true → P next) → P (where_so b next)
by_where P true next fails goes = goes refl
by_where P false next fails goes = fails

get_by : (P : Effect → Type 0) (s : Store) (to : ℕ) (o p : Option Datum) → P Fails → ((ds : Data) (z : ℤ) → o ≡ Some (Array ds) → number_in p ≡ Some z → is_index z ds ≡ true → P (gives s to (item_at ds (nat_of z))))
    → P (there o (λ v. there p (λ w. as_items v (λ ds. as_number w (λ z. where_so (is_index z ds) (gives s to (item_at ds (nat_of z))))))))
get_by P s to None p fails goes = fails
get_by P s to (Some v) None fails goes = fails
get_by P s to (Some Null) (Some w) fails goes = fails
get_by P s to (Some (Truth b)) (Some w) fails goes = fails
get_by P s to (Some (Whole z)) (Some w) fails goes = fails
get_by P s to (Some (Record fs)) (Some w) fails goes = fails
get_by P s to (Some (Array ds)) (Some Null) fails goes = fails
get_by P s to (Some (Array ds)) (Some (Truth b)) fails goes = fails
get_by P s to (Some (Array ds)) (Some (Array es)) fails goes = fails
get_by P s to (Some (Array ds)) (Some (Record fs)) fails goes = fails
get_by P s to (Some (Array ds)) (Some (Whole z)) fails goes = by_where P (is_index z ds) (gives s to (item_at ds (nat_of z))) fails (λ inside. goes ds z refl refl inside)

index_within : (z : ℤ) (ds : Data) → is_index z ds ≡ true → (i : ℕ) × (z ≡ pos i) × (i < length_of ds)
index_within (pos i) ds inside = (i, refl, grind (arith, nat_tests))
index_within (negsuc i) ds inside = absurd (cc)

pub same_pos : (i j : ℕ) → pos i ≡ pos j → i ≡ j
same_pos i j is = cc

some_number : (x y : ℤ) → Some x ≡ Some y → x ≡ y
some_number x y is = cc

pub item_goes : (h n o : Heap) (ps qs : List Part) (to from index : ℕ) (z : ℤ) (p made : Part) → Reads h ps index number_in (Some z) → p ≡ get_or ps from part.Null → from < length ps → AreRegisters h ps → Seconds h n p made → ((i : ℕ) (d : Datum) → z ≡ pos i → Means (map_of h) d p → Means (map_of n) (child d (slots.item_at i)) made) → Puts n o ps made qs → qs ≡ set ps to made
    → WentOn (map_of h) (map_of o) ps qs (λ s. there (slot s from) (λ v. there (slot s index) (λ w. as_items v (λ ds. as_number w (λ y. where_so (is_index y ds) (gives s to (item_at ds (nat_of y))))))))
item_goes h n o ps qs to from index z p made reads is below held seconds value puts after s shows =
    get_by (Leaves (map_of o) qs []) s to (slot s from) (slot s index) tt
    (λ ds y holds_array holds_number inside.
    let same : z ≡ y = some_number z y (reads s shows ∙ holds_number) in
    let at = index_within y ds inside in
    let means : Means (map_of h) (Array ds) p = subst (Means (map_of h) (Array ds)) (sym is) (shows_slot (map_of h) s ps from (Array ds) shows holds_array) in
    let item_is : child (Array ds) (slots.item_at at.0) ≡ item_at ds (nat_of y) = nth-item_at ds at.0 ∙ ap (λ (w : ℤ). item_at ds (nat_of w)) (sym at.1) in (
      second_shows h n o s p made ps qs from to (item_at ds (nat_of y)) is below held seconds puts after shows
          (subst (λ (d : Datum). Means (map_of n) d made) item_is (value at.0 (Array ds) (same ∙ at.1) means)),
      refl,
    ))

pub item_stops : (h : Heap) (ps : List Part) (to from index : ℕ) (z : ℤ) (p : Part) (stop : Stop) → Reads h ps index number_in (Some z) → p ≡ get_or ps from part.Null → (stop ≡ Stuck → (i : ℕ) → z ≡ pos i → IsItem h p i → ⊥)
    → IsStop (map_of h) ps (λ s. there (slot s from) (λ v. there (slot s index) (λ w. as_items v (λ ds. as_number w (λ y. where_so (is_index y ds) (gives s to (item_at ds (nat_of y)))))))) stop
item_stops h ps to from index z p Stuck reads is none = λ s shows.
    get_by (λ (e : Effect). e ≡ Fails) s to (slot s from) (slot s index) refl
    (λ ds y holds_array holds_number inside.
    let same : z ≡ y = some_number z y (reads s shows ∙ holds_number) in
    let at = index_within y ds inside in
    let means : Means (map_of h) (Array ds) p = subst (Means (map_of h) (Array ds)) (sym is) (shows_slot (map_of h) s ps from (Array ds) shows holds_array) in
    absurd (none refl at.0 (same ∙ at.1) (Array ds, means, at.2)))
item_stops h ps to from index z p NoMemory reads is none = tt

pub item_no_number : (h : Heap) (ps : List Part) (to from index : ℕ) → Reads h ps index number_in None
    → HasNone (map_of h) ps (λ s. there (slot s from) (λ v. there (slot s index) (λ w. as_items v (λ ds. as_number w (λ y. where_so (is_index y ds) (gives s to (item_at ds (nat_of y))))))))
item_no_number h ps to from index reads s shows =
    get_by (λ (e : Effect). e ≡ Fails) s to (slot s from) (slot s index) refl (λ ds y holds_array holds_number inside. absurd (let e = reads s shows ∙ holds_number in cc))

pub item_beyond : (h : Heap) (ps : List Part) (to from index : ℕ) → length ps ≤ from
    → HasNone (map_of h) ps (λ s. there (slot s from) (λ v. there (slot s index) (λ w. as_items v (λ ds. as_number w (λ y. where_so (is_index y ds) (gives s to (item_at ds (nat_of y))))))))
item_beyond h ps to from index beyond s shows =
    get_by (λ (e : Effect). e ≡ Fails) s to (slot s from) (slot s index) refl (λ ds y holds_array holds_number inside. absurd (omega (arith, slot_within (map_of h) s ps from (Array ds) shows holds_array)))
