-- A write at a path, key by key, a level at a time.
use Rattle.std.proofs.Common.{◌≡◌, ◌≢◌, inl, inr, ℕ, zero, suc, ◌≤◌, List, [], ◌∷◌, set, Option, Some, None, IsSome, refl, sym, ◌∙◌, ap, subst, arith}
use Rattle.std.proofs.lemmas.Bool.{cases_eq}
use Rattle.std.proofs.lemmas.List.{set-set}
use Rattle.wy_value.specs.Datum.{Datum}
use Rattle.wy_heap.specs.declared.part.Part.{Part}
use Rattle.wy_heap.specs.declared.part.Part.TheVariants.{Null, Bool, Int, Key}
use Rattle.wy_heap.specs.declared.heap.Heap.{Heap}
use Rattle.wy_heap.specs.Nodes.{Form, Body, Map, map_of, at, holds, held, slot_holds, inner, count_at, parts_in, form_in}
use Rattle.wy_heap.specs.Meaning.{Means}
use Rattle.wy_heap.specs.Slots.{Step, HasPath, child, place_in, part_of, part_at}
use Rattle.wy_heap.specs.Copying.{raised}
use Rattle.wy_heap.specs.Changing.{Joins, JoinsAlone, JoinsCopy, Swaps, More}
use Rattle.wy_heap.specs.Putting.{IsSole, Sole, with_step, CopiedAlong, PutAlong, IsInPlace, left_in, copied_holds, RoomForCopies, RoomAlong}
use Rattle.wy_heap.proofs.CountLemmas.{holds_one, slot-le-inner}
use Rattle.wy_heap.proofs.ChangeLemmas.{not_there, some_or_none}
use Rattle.wy_heap.proofs.SlotLemmas.{held_node, child_means}
use Rattle.wy_heap.proofs.PlaceLemmas.{part_free}

-- ---- a path whose nodes are the same in two maps

pub SamePath : Map → Map → Part → List Step → Type 0
SamePath m n p [] = Unit {0}
SamePath m n p (s ∷ path) = ((k : ℕ) → p ≡ Key k → at n k ≡ at m k) × SamePath m n (part_at m p s) path

part_at-same : (m n : Map) (p : Part) (s : Step) → ((k : ℕ) → p ≡ Key k → at n k ≡ at m k) → part_at n p s ≡ part_at m p s
part_at-same m n Null s same = refl
part_at-same m n (Bool b) s same = refl
part_at-same m n (Int z) s same = refl
part_at-same m n (Key k) s same = ap (λ (o : Option Body). part_of o (place_in (form_in o) s)) (same k refl)

left_in-same : (m n : Map) (p : Part) (s : Step) → ((k : ℕ) → p ≡ Key k → at n k ≡ at m k) → left_in n p s ≡ left_in m p s
left_in-same m n Null s same = refl
left_in-same m n (Bool b) s same = refl
left_in-same m n (Int z) s same = refl
left_in-same m n (Key k) s same = ap (λ (o : Option Body). set (parts_in o) (place_in (form_in o) s) Null) (same k refl)

-- where all old nodes stay
pub same_more : (h n : Heap) (path : List Step) (p : Part) (d : Datum) → More (map_of h) (map_of n) → Means (map_of h) d p → HasPath d path → SamePath (map_of h) (map_of n) p path
unfolding SamePath
same_more h n [] p d more means has = tt
same_more h n (s ∷ path) p d more means has = (
  (λ k is. let node = held_node h p k d is means in more k _ node.is ∙ sym node.is),
  same_more h n path (part_at (map_of h) p s) (child d s) more (child_means h p d s means has.0) has.1,
)

pub copied_holds-same : (k : ℕ) (m n : Map) (path : List Step) (p : Part) → SamePath m n p path → copied_holds k n p path ≡ copied_holds k m p path
unfolding SamePath
copied_holds-same k m n [] p same = refl
copied_holds-same k m n (s ∷ path) p same =
    let rest = ap (λ (q : Part). copied_holds k n q path) (part_at-same m n p s same.0) ∙ copied_holds-same k m n path (part_at m p s) same.1 in
    omega (arith, rest, ap (held k) (left_in-same m n p s same.0))

-- what was copied in a later map was copied in an earlier one that lacks no more keys
pub copied_along-same : (m m1 n1 n : Map) (path : List Step) (p part made : Part) → SamePath m m1 p path → ((k : ℕ) → at m1 k ≡ None → at m k ≡ None) → ((k : ℕ) → at m1 k ≡ None → at n k ≡ at n1 k) → CopiedAlong m1 n1 p path part made → CopiedAlong m n p path part made
unfolding SamePath
copied_along-same m m1 n1 n [] p part made same vacant agrees along = along
copied_along-same m m1 n1 n (s ∷ path) p part made same vacant agrees along = record {
  key = along.key;
  whole_is = along.whole_is;
  fresh = along.fresh;
  made_is = along.made_is;
  vacant = vacant along.fresh along.vacant;
  below = along.below;
  is = agrees along.fresh along.vacant ∙ along.is ∙ ap (λ (o : Option Body). with_step o s along.below) (same.0 along.key along.whole_is);
  goes_on = copied_along-same m m1 n1 n path (part_at m p s) part along.below same.1 vacant agrees
      (subst (λ (q : Part). CopiedAlong m1 n1 q path part along.below) (part_at-same m m1 p s same.0) along.goes_on);
}

pub same_path : (m : Map) (path : List Step) (p : Part) → SamePath m m p path
unfolding SamePath
same_path m [] p = tt
same_path m (s ∷ path) p = ((λ k is. refl), same_path m path (part_at m p s))

-- ---- a copy of one node, with the rest of the path

none_before : (m n : Map) → More m n → (k : ℕ) → at n k ≡ None → at m k ≡ None
none_before m n more k none = elim (some_or_none (at m k)) [
  | inr gone ↦ gone
  | inl found ↦ absurd (let is = more k found.0 found.1 in cc)
]

-- the copy has the next one in its slot
with_again : (o : Option Body) (b : Body) (s : Step) (below : Part) (place : ℕ) → o ≡ Some b → place ≡ place_in b.form s → Some (record { form = b.form; parts = set (set b.parts place Null) place below }) ≡ with_step o s below
with_again o b s below place is lies =
    ap (λ (ps : List Part). Some (record { form = b.form; parts = ps })) (set-set b.parts place Null below ∙ ap (λ (i : ℕ). set b.parts i below) lies)
    ∙ sym (ap (λ (x : Option Body). with_step x s below) is)

pub copied_level : (s0 s1 s2 s3 : Heap) (whole inside part below : Part) (key place top : ℕ) (b : Body) (step : Step) (rest : List Step) (d : Datum) → whole ≡ Key key → at (map_of s0) key ≡ Some b → place ≡ place_in b.form step → inside ≡ part_at (map_of s0) whole step → Means (map_of s0) d inside → HasPath d rest → Joins s0 s1 top b.form (set b.parts place Null) → More (map_of s0) (map_of s1) → More (map_of s1) (map_of s2) → Swaps s2 s3 top place below → CopiedAlong (map_of s1) (map_of s2) inside rest part below → CopiedAlong (map_of s0) (map_of s3) whole (step ∷ rest) part (Key top)
copied_level s0 s1 s2 s3 whole inside part below key place top b step rest d is was lies inside_is means has joins more1 more2 swaps along =
    let body : Some swaps.body ≡ Some (record { form = b.form; parts = set b.parts place Null }) = sym swaps.was ∙ more2 top _ joins.is in
    let there : IsSome (at (map_of s1) top) = subst IsSome (sym joins.is) refl in
    record {
      key = key;
      whole_is = is;
      fresh = top;
      made_is = refl;
      vacant = joins.vacant;
      below = below;
      is = swaps.is ∙ ap (λ (x : Option Body). with_place x) body ∙ with_again (at (map_of s0) key) b step below place was lies;
      goes_on = subst (λ (q : Part). CopiedAlong (map_of s0) (map_of s3) q rest part below) inside_is
          (copied_along-same (map_of s0) (map_of s1) (map_of s2) (map_of s3) rest inside part below
          (same_more s0 s1 rest inside d more1 means has)
          (none_before (map_of s0) (map_of s1) more1)
          (λ k none. swaps.others k (λ e. not_there (at (map_of s1) k) none (subst (λ (i : ℕ). IsSome (at (map_of s1) i)) (sym e) there)))
          along);
    }
  where
    with_place : Option Body → Option Body
    with_place None = None
    with_place (Some x) = Some (record { form = x.form; parts = set x.parts place below })

-- the room for the rest
pub room_level : (s0 s1 : Heap) (whole inside : Part) (key place top : ℕ) (b : Body) (step : Step) (rest : List Step) (d : Datum) → whole ≡ Key key → at (map_of s0) key ≡ Some b → place ≡ place_in b.form step → inside ≡ part_at (map_of s0) whole step → Means (map_of s0) d inside → HasPath d rest → Joins s0 s1 top b.form (set b.parts place Null) → More (map_of s0) (map_of s1) → 1 ≤ s0.cap → s1.cap ≡ s0.cap → RoomForCopies s0 whole (step ∷ rest) → ((k : ℕ) → 1 ≤ copied_holds k (map_of s0) inside rest → k ≢ top) → RoomForCopies s1 inside rest
room_level s0 s1 whole inside key place top b step rest d is was lies inside_is means has joins more1 one cap room other k some =
    let same = copied_holds-same k (map_of s0) (map_of s1) rest inside (same_more s0 s1 rest inside d more1 means has) in
    let left = ap (held k) (left_is s0 whole key place b step is was lies) in
    let next = ap (λ (q : Part). copied_holds k (map_of s0) q rest) inside_is in
    omega (arith, some, same, left, next, cap, joins.counts k (other k (omega (arith, some, same))), room k (omega (arith, some, same, next)))
  where
    left_is : (h : Heap) (w : Part) (i at_place : ℕ) (x : Body) (s : Step) → w ≡ Key i → at (map_of h) i ≡ Some x → at_place ≡ place_in x.form s → left_in (map_of h) w s ≡ set x.parts at_place Null
    left_is h w i at_place x s e found lie =
        ap (λ (q : Part). left_in (map_of h) q s) e
        ∙ ap (λ (o : Option Body). set (parts_in o) (place_in (form_in o) s) Null) found
        ∙ ap (λ (j : ℕ). set x.parts j Null) (sym lie)

held-set_null : (k : ℕ) (ps : List Part) (i : ℕ) → held k (set ps i Null) ≤ held k ps
held-set_null k [] i = omega arith
held-set_null k (p ∷ ps) zero = omega arith
held-set_null k (p ∷ ps) (suc i) = omega (arith, held-set_null k ps i)

held-left : (k : ℕ) (m : Map) (p : Part) (s : Step) → held k (left_in m p s) ≤ inner k m
held-left k m Null s = omega arith
held-left k m (Bool b) s = omega arith
held-left k m (Int z) s = omega arith
held-left k m (Key j) s = omega (arith, held-set_null k (parts_in (at m j)) (place_in (form_in (at m j)) s), parts_slot k (at m j), slot-le-inner k m j)
  where
    parts_slot : (i : ℕ) (o : Option Body) → held i (parts_in o) ≡ slot_holds i o
    parts_slot i None = refl
    parts_slot i (Some b) = refl

-- what the copies hold is held by a slot
pub copied_held : (k : ℕ) (m : Map) (path : List Step) (p : Part) → 1 ≤ copied_holds k m p path → 1 ≤ inner k m
copied_held k m [] p some = absurd (omega (arith, some))
copied_held k m (s ∷ path) p some = elim (cases_eq (held k (left_in m p s)) 0) [
  | inl none ↦ copied_held k m path (part_at m p s) (omega (arith, some, none))
  | inr more ↦ omega (arith, more, held-left k m p s)
]

-- ---- a path that never meets a key

pub Avoids : ℕ → Map → Part → List Step → Type 0
Avoids key m p [] = Unit {0}
Avoids key m p (s ∷ path) = (holds key p ≡ 0) × Avoids key m (part_at m p s) path

part_at-free : (key : ℕ) (m : Map) (p : Part) (s : Step) → inner key m ≡ 0 → holds key (part_at m p s) ≡ 0
part_at-free key m Null s none = refl
part_at-free key m (Bool b) s none = refl
part_at-free key m (Int z) s none = refl
part_at-free key m (Key k) s none = part_free key (at m k) (place_in (form_in (at m k)) s) (omega (arith, slot-le-inner key m k, none))

pub avoids : (key : ℕ) (m : Map) (path : List Step) (p : Part) → inner key m ≡ 0 → holds key p ≡ 0 → Avoids key m p path
unfolding Avoids
avoids key m [] p none free = tt
avoids key m (s ∷ path) p none free = (free, avoids key m path (part_at m p s) none (part_at-free key m p s none))

not_key : (key k : ℕ) (p : Part) → holds key p ≡ 0 → p ≡ Key k → k ≢ key
not_key key k p free is same = omega (arith, free, ap (holds key) is, ap (λ (i : ℕ). holds key (Key i)) same, holds_one key)

pub same_avoids : (key : ℕ) (m n : Map) (path : List Step) (p : Part) → Avoids key m p path → ((k : ℕ) → k ≢ key → at n k ≡ at m k) → SamePath m n p path
unfolding Avoids SamePath
same_avoids key m n [] p avoid others = tt
same_avoids key m n (s ∷ path) p avoid others =
    ((λ k is. others k (not_key key k p avoid.0 is)), same_avoids key m n path (part_at m p s) avoid.1 others)

-- ---- what is said of a heap on such a path holds of the other heap

sole-same : (h n : Heap) (p : Part) → ((k : ℕ) → count_at n k ≡ count_at h k) → IsSole n p → IsSole h p
sole-same h n p counts sole k is = sym (counts k) ∙ sole k is

sole-same_back : (h n : Heap) (p : Part) → ((k : ℕ) → count_at n k ≡ count_at h k) → IsSole h p → IsSole n p
sole-same_back h n p counts sole k is = counts k ∙ sole k is

pub all_sole-same : (h n : Heap) (path : List Step) (p : Part) → SamePath (map_of h) (map_of n) p path → ((k : ℕ) → count_at n k ≡ count_at h k) → Sole n p path → Sole h p path
unfolding SamePath
all_sole-same h n [] p same counts sole = tt
all_sole-same h n (s ∷ path) p same counts sole = (
  sole-same h n p counts sole.0,
  all_sole-same h n path (part_at (map_of h) p s) same.1 counts
      (subst (λ (q : Part). Sole n q path) (part_at-same (map_of h) (map_of n) p s same.0) sole.1),
)

pub room_along-same : (h n : Heap) (path : List Step) (p : Part) → SamePath (map_of h) (map_of n) p path → ((k : ℕ) → count_at n k ≡ count_at h k) → n.cap ≡ h.cap → RoomAlong h p path → RoomAlong n p path
unfolding SamePath
room_along-same h n [] p same counts cap room = tt
room_along-same h n (s ∷ path) p same counts cap room = (
  (λ sole. subst (λ (q : Part). RoomAlong n q path) (sym (part_at-same (map_of h) (map_of n) p s same.0))
      (room_along-same h n path (part_at (map_of h) p s) same.1 counts cap (room.0 (sole-same h n p counts sole)))),
  (λ many k some.
      let e = copied_holds-same k (map_of h) (map_of n) (s ∷ path) p same in
      omega (arith, e, counts k, cap, some, room.1 (λ sole. many (sole-same_back h n p counts sole)) k (omega (arith, e, some)))),
)

pub in_place-same : (h n : Heap) (k : ℕ) (path : List Step) (p : Part) → SamePath (map_of h) (map_of n) p path → ((j : ℕ) → count_at n j ≡ count_at h j) → IsInPlace n k p path → IsInPlace h k p path
unfolding SamePath
in_place-same h n k [] p same counts place = place
in_place-same h n k (s ∷ path) p same counts place = (
  sole-same h n p counts place.0,
  elim place.1 [
    | inl is ↦ inl is
    | inr further ↦ inr (in_place-same h n k path (part_at (map_of h) p s) same.1 counts
        (subst (λ (q : Part). IsInPlace n k q path) (part_at-same (map_of h) (map_of n) p s same.0) further))
  ],
)

pub in_place-avoids : (h : Heap) (key : ℕ) (path : List Step) (p : Part) → Avoids key (map_of h) p path → IsInPlace h key p path → ⊥
unfolding Avoids
in_place-avoids h key [] p avoid place = place
in_place-avoids h key (s ∷ path) p avoid place = elim place.1 [
  | inl is ↦ not_key key key p avoid.0 is refl
  | inr further ↦ in_place-avoids h key path (part_at (map_of h) p s) avoid.1 further
]

pub put_along-same : (h n : Heap) (n2 n3 : Map) (key : ℕ) (path : List Step) (p part made : Part) (copies : ℕ) → SamePath (map_of h) (map_of n) p path → Avoids key (map_of h) p path → ((k : ℕ) → count_at n k ≡ count_at h k) → ((k : ℕ) → at (map_of n) k ≡ None → at (map_of h) k ≡ None) → IsSome (at (map_of n) key) → ((k : ℕ) → k ≢ key → at n3 k ≡ at n2 k) → PutAlong n n2 p path part copies made → PutAlong h n3 p path part copies made
unfolding SamePath Avoids
put_along-same h n n2 n3 key [] p part made copies same avoid counts vacant there agrees along = along
put_along-same h n n2 n3 key (s ∷ path) p part made copies same avoid counts vacant there agrees (inl w) = inl (record {
  key = w.key;
  whole_is = w.whole_is;
  one = sym (counts w.key) ∙ w.one;
  made_is = w.made_is;
  below = w.below;
  is = agrees w.key (not_key key w.key p avoid.0 w.whole_is) ∙ w.is ∙ ap (λ (o : Option Body). with_step o s w.below) (same.0 w.key w.whole_is);
  goes_on = put_along-same h n n2 n3 key path (part_at (map_of h) p s) part w.below copies same.1 avoid.1 counts vacant there agrees
      (subst (λ (q : Part). PutAlong n n2 q path part copies w.below) (part_at-same (map_of h) (map_of n) p s same.0) w.goes_on);
})
put_along-same h n n2 n3 key (s ∷ path) p part made copies same avoid counts vacant there agrees (inr c) = inr (record {
  many = λ sole. c.many (sole-same_back h n p counts sole);
  copied = copied_along-same (map_of h) (map_of n) n2 n3 (s ∷ path) p part made same vacant
      (λ k none. agrees k (λ e. not_there (at (map_of n) k) none (subst (λ (i : ℕ). IsSome (at (map_of n) i)) (sym e) there))) c.copied;
  as_many = c.as_many;
})

pub recounted : (h n : Heap) (made : ℕ) (form : Form) (parts : List Part) (copies : ℕ) → JoinsAlone h n made form parts → copies ≡ raised n.copies 1 → JoinsCopy h (record n { copies = copies }) made form parts
recounted h n made form parts copies alone is = record {
  joins = record { vacant = alone.joins.vacant; is = alone.joins.is; count = alone.joins.count; counts = alone.joins.counts; others = alone.joins.others };
  copies = is ∙ ap (λ (x : ℕ). raised x 1) alone.copies;
}
