-- A write at a path, key by key: a level of copies, and a level in place.
use Rattle.std.proofs.Common.{◌≡◌, inl, inr, ℕ, ◌+◌, ◌≤◌, List, [], ◌∷◌, set, length, Option, Some, None, IsSome, refl, sym, ◌∙◌, ap, subst, arith}
use Rattle.std.proofs.lemmas.Bool.{cases_eq}
use Rattle.std.proofs.lemmas.List.{set-set}
use Rattle.wy_heap.specs.declared.part.Part.{Part}
use Rattle.wy_heap.specs.declared.part.Part.TheVariants.{Null, Key}
use Rattle.wy_heap.specs.declared.heap.Heap.{Heap}
use Rattle.wy_heap.specs.Nodes.{Body, map_of, at, holds, held, inner, count_at, parts_in, form_in}
use Rattle.wy_heap.specs.Standing.{Counts}
use Rattle.wy_heap.specs.Slots.{Step, child, place_in, part_of, part_at}
use Rattle.wy_heap.specs.Copying.{raised, CopiesAsMany}
use Rattle.wy_heap.specs.Changing.{Joins, JoinsCopy, Swaps, HasRoom, CopiesOnly, More, Lasts, Upheld}
use Rattle.wy_heap.specs.Putting.{IsSole, Sole, CountsCopies, with_step, CopiedAlong, PutAlong, IsInPlace, Puts, left_in, RoomForCopies, RoomAlong, CopiesAlong}
use Rattle.wy_heap.proofs.CountLemmas.{holds_one, holds_is, slot-le-inner}
use Rattle.wy_heap.proofs.ChangeLemmas.{not_there, some_or_none}
use Rattle.wy_heap.proofs.PathLemmas.{Level, level_inside}
use Rattle.wy_heap.proofs.PlaceLemmas.{part_free}
use Rattle.wy_heap.proofs.SizeLemmas.{copies_trans, size_same, size_swapped, raised-raised}
use Rattle.wy_heap.proofs.PutLemmas.{SamePath, same_path, copied_along-same, copied_level, room_level, copied_held, Avoids, avoids, same_avoids, all_sole-same, room_along-same, in_place-same, in_place-avoids, put_along-same}

-- ---- a level of copies

-- what is in the slot is where the step leads
pub level_part : (s0 : Heap) (whole : Part) (key place : ℕ) (step : Step) (rest : List Step) (inside : Part) → Level s0 whole key place step rest inside → inside ≡ part_at (map_of s0) whole step
level_part s0 whole key place step rest inside level =
    let lies : place ≡ place_in (form_in (at (map_of s0) key)) step = level.place_is ∙ sym (ap (λ (o : Option Body). place_in (form_in o) step) level.was) in
    level.inside_is ∙ ap (part_of (at (map_of s0) key)) lies ∙ sym (ap (λ (q : Part). part_at (map_of s0) q step) level.is_key)

pub copied_only : (s0 s1 s2 s3 : Heap) (top place : ℕ) (below : Part) → at (map_of s0) top ≡ None → More (map_of s0) (map_of s1) → ((k : ℕ) → count_at s0 k ≤ count_at s1 k) → CopiesAsMany s0 s1 → CopiesOnly s1 s2 → Swaps s2 s3 top place below → s3.copies ≡ s2.copies → CopiesOnly s0 s3
copied_only s0 s1 s2 s3 top place below vacant stays more copies only swaps same =
    let both = copies_trans s0 s1 s2 copies only.copies in
    record {
      stays = λ k b was. swaps.others k (λ e. not_there (at (map_of s0) k) (ap (at (map_of s0)) e ∙ vacant) (subst IsSome (sym was) refl)) ∙ only.stays k b (stays k b was);
      more = λ k. omega (arith, more k, only.more k, swaps.counts k);
      copies = (both.0, omega (arith, both.1, size_swapped s2 s3 top place below swaps), same ∙ both.2);
    }

pub copied_exact : (s0 : Heap) (whole : Part) (key place : ℕ) (step : Step) (rest : List Step) (inside : Part) (level : Level s0 whole key place step rest inside) (s1 : Heap) (top : ℕ) (places : List Part) → Counts s0 places → (HasRoom s0 (set (parts_in (at (map_of s0) key)) place Null) → JoinsCopy s0 s1 top (form_in (at (map_of s0) key)) (set (parts_in (at (map_of s0) key)) place Null)) → 1 ≤ s0.cap → s1.cap ≡ s0.cap → More (map_of s0) (map_of s1) → (s2 s3 : Heap) (part below : Part) → More (map_of s1) (map_of s2) → (RoomForCopies s1 inside rest → CopiesAlong s1 s2 inside rest part below) → Swaps s2 s3 top place below → s3.copies ≡ s2.copies → RoomForCopies s0 whole (step ∷ rest) → CopiesAlong s0 s3 whole (step ∷ rest) part (Key top)
copied_exact s0 whole key place step rest inside level s1 top places counts copy one cap stays s2 s3 part below stays2 goes_on swaps same room =
    let left : left_in (map_of s0) whole step ≡ set (parts_in (at (map_of s0) key)) place Null =
    ap (λ (q : Part). left_in (map_of s0) q step) level.is_key
    ∙ ap (λ (o : Option Body). set (parts_in (at (map_of s0) key)) (place_in (form_in o) step) Null) level.was
    ∙ ap (λ (i : ℕ). set (parts_in (at (map_of s0) key)) i Null) (sym level.place_is) in
    let has : HasRoom s0 (set (parts_in (at (map_of s0) key)) place Null) =
    λ k some. omega (arith, ap (held k) left, room k (omega (arith, some, ap (held k) left))) in
    let joined = copy has in
    let joins : Joins s0 s1 top level.body.form (set level.body.parts place Null) =
    subst (λ (o : Option Body). Joins s0 s1 top (form_in o) (set (parts_in o) place Null)) level.was joined.joins in
    let inside_at = level_part s0 whole key place step rest inside level in
    let means = level_inside s0 whole key place step rest inside level in
    let further = room_level s0 s1 whole inside key place top level.body step rest (child level.value step) level.is_key level.was level.place_is inside_at means level.path joins stays one cap room
    (λ k some e. not_there (at (map_of s0) k) (ap (at (map_of s0)) e ∙ joins.vacant)
    (counts.there k (omega (arith, counts.counted k, copied_held k (map_of s0) rest inside some)))) in
    let after = goes_on further in
    record {
      along = copied_level s0 s1 s2 s3 whole inside part below key place top level.body step rest (child level.value step) level.is_key level.was level.place_is inside_at means level.path joins stays stays2 swaps after.along;
      counted = same ∙ after.counted ∙ ap (λ (n : ℕ). raised n (length rest)) joined.copies ∙ raised-raised s0.copies 1 (length rest) ∙ ap (raised s0.copies) one_more;
    }
  where
    one_more : 1 + length rest ≡ length (step ∷ rest)
    one_more = omega arith

-- ---- the whole is let go of, and nothing goes

-- where the place isn't the last holder, all nodes stay as they are
pub nothing_freed : (s1 s2 : Heap) (whole : Part) (all : List Part) → Counts s1 (whole ∷ all) → ((k : ℕ) → whole ≡ Key k → 2 ≤ count_at s1 k) → Lasts (map_of s1) (map_of s2) → Upheld s1 (map_of s2) whole → (k : ℕ) → at (map_of s2) k ≡ at (map_of s1) k
nothing_freed s1 s2 whole all counts many lasts upheld k = elim (some_or_none (at (map_of s1) k)) [
  | inr none ↦ elim (lasts k) [ inl gone ↦ gone ∙ sym none | inr same ↦ same ]
  | inl found ↦ upheld (map_of s1) all counts
      (λ j b was.
      let alive : 1 ≤ count_at s1 j = counts.alive j (subst IsSome (sym was) refl) in
      elim (cases_eq (holds j whole) 0) [
        | inl free ↦ omega (arith, alive, free, counts.counted j)
        | inr some ↦
            let is = holds_is j whole (omega (arith, some)) in
            omega (arith, many j is, counts.counted j, ap (holds j) is, holds_one j)
      ])
      (λ j b was. was) k found.0 found.1 ∙ sym found.1
]

-- a node that isn't held once has a second holder
pub held_twice : (s0 : Heap) (whole : Part) (others : List Part) → Counts s0 (whole ∷ others) → (IsSole s0 whole → ⊥) → (k : ℕ) → whole ≡ Key k → 2 ≤ count_at s0 k
held_twice s0 whole others counts many k is = elim (cases_eq (count_at s0 k) 1) [
  | inl one ↦ absurd (many (λ j e. let same : j ≡ k = key_same whole j k e is in ap (count_at s0) same ∙ one))
  | inr differ ↦ omega (arith, differ, counts.counted k, ap (holds k) is, holds_one k)
]
  where
    key_same : (p : Part) (j i : ℕ) → p ≡ Key j → p ≡ Key i → j ≡ i
    key_same p j i e f = cc

pub freed_copies : (s0 s1 s2 : Heap) → CopiesAsMany s0 s1 → ((k : ℕ) → at (map_of s2) k ≡ at (map_of s1) k) → s2.copies ≡ s1.copies → CopiesAsMany s0 s2
freed_copies s0 s1 s2 copies same counted = (copies.0, omega (arith, copies.1, size_same (map_of s1) (map_of s2) same), counted ∙ copies.2)

-- from a node with a second holder on, all nodes on the path are copied
pub room_many : (h : Heap) (whole : Part) (path : List Step) → (IsSole h whole → ⊥) → RoomAlong h whole path → RoomForCopies h whole path
room_many h whole [] many room = λ k some. absurd (omega (arith, some))
room_many h whole (s ∷ path) many room = room.1 many

pub copy_puts : (s0 s1 s2 : Heap) (whole : Part) (path : List Step) (part made : Part) → (IsSole s0 whole → ⊥) → More (map_of s0) (map_of s1) → CopiesAlong s0 s1 whole path part made → ((k : ℕ) → at (map_of s2) k ≡ at (map_of s1) k) → s2.copies ≡ s1.copies → Puts s0 s2 whole path part made
copy_puts s0 s1 s2 whole path part made many stays copied same counted = record {
  copies = length path;
  along = along_from path made
      (copied_along-same (map_of s0) (map_of s0) (map_of s1) (map_of s2) path whole part made (same_path (map_of s0) path whole) (λ k none. none) (λ k none. same k) copied.along);
  others = λ k is. elim (some_or_none (at (map_of s0) k)) [
    | inr none ↦ absurd (not_there (at (map_of s0) k) none is)
    | inl found ↦ inr (inl (same k ∙ stays k found.0 found.1 ∙ sym found.1))
  ];
  counted = counted ∙ copied.counted;
}
  where
    along_from : (steps : List Step) (q : Part) → CopiedAlong (map_of s0) (map_of s2) whole steps part q → PutAlong s0 (map_of s2) whole steps part (length steps) q
    along_from [] q along = (along, refl)
    along_from (s ∷ steps) q along = inr (record { many = many; copied = along; as_many = refl })

-- ---- the end of the path

pub end_puts : (s0 s1 : Heap) (whole part : Part) → Lasts (map_of s0) (map_of s1) → s1.copies ≡ s0.copies → Puts s0 s1 whole [] part part
end_puts s0 s1 whole part lasts same = record {
  copies = 0;
  along = (refl, refl);
  others = λ k is. elim (lasts k) [ inl gone ↦ inl gone | inr still ↦ inr (inl still) ];
  counted = same;
}

-- ---- a level in place

module _ (s0 : Heap) (whole : Part) (key place : ℕ) (step : Step) (rest : List Step) (inside : Part) (level : Level s0 whole key place step rest inside) (s1 : Heap) (swaps : Swaps s0 s1 key place Null) (sole : count_at s0 key ≡ 1) (others : List Part) (counts : Counts s0 (whole ∷ others)) where
  alone : inner key (map_of s0) ≡ 0
  alone = omega (arith, counts.counted key, sole, ap (holds key) level.is_key, holds_one key)

  place_part : inside ≡ part_at (map_of s0) whole step
  place_part = level_part s0 whole key place step rest inside level

  place_avoids : Avoids key (map_of s0) inside rest
  place_avoids =
      let free : holds key inside ≡ 0 = ap (holds key) level.inside_is ∙ part_free key (at (map_of s0) key) place (omega (arith, slot-le-inner key (map_of s0) key, alone)) in
      avoids key (map_of s0) rest inside alone free

  place_same : SamePath (map_of s0) (map_of s1) inside rest
  place_same = same_avoids key (map_of s0) (map_of s1) rest inside place_avoids swaps.others

  place_sole : IsSole s0 whole
  place_sole k is = let same : k ≡ key = key_is whole k key is level.is_key in ap (count_at s0) same ∙ sole
    where
      key_is : (p : Part) (j i : ℕ) → p ≡ Key j → p ≡ Key i → j ≡ i
      key_is p j i e f = cc

  pub place_room : s1.cap ≡ s0.cap → RoomAlong s0 whole (step ∷ rest) → RoomAlong s1 inside rest
  place_room cap room =
      room_along-same s0 s1 rest inside place_same swaps.counts cap (subst (λ (q : Part). RoomAlong s0 q rest) (sym place_part) (room.0 place_sole))

  there1 : IsSome (at (map_of s1) key)
  there1 = subst IsSome (sym swaps.is) refl

  none1 : (k : ℕ) → at (map_of s1) k ≡ None → at (map_of s0) k ≡ None
  none1 k none = elim (cases_eq k key) [
    | inl e ↦ absurd (not_there (at (map_of s1) k) none (subst (λ (i : ℕ). IsSome (at (map_of s1) i)) (sym e) there1))
    | inr differ ↦ sym (swaps.others k differ) ∙ none
  ]

  module _ (s2 s3 : Heap) (part below : Part) (puts : Puts s1 s2 inside rest part below) (again : Swaps s2 s3 key place below) (there2 : IsSome (at (map_of s2) key)) (first : s1.copies ≡ s0.copies) (last : s3.copies ≡ s2.copies) where
    -- the node above is as it was left
    kept2 : at (map_of s2) key ≡ at (map_of s1) key
    kept2 = elim (puts.others key there1) [
      | inl gone ↦ absurd (not_there (at (map_of s2) key) gone there2)
      | inr next ↦ elim next [
        | inl same ↦ same
        | inr in_place ↦ absurd (in_place-avoids s0 key rest inside place_avoids (in_place-same s0 s1 key rest inside place_same swaps.counts in_place))
      ]
    ]

    put_back : at (map_of s3) key ≡ with_step (at (map_of s0) key) step below
    put_back =
        let body : Some again.body ≡ Some (record { form = swaps.body.form; parts = set swaps.body.parts place Null }) = sym again.was ∙ kept2 ∙ swaps.is in
        let same : Some swaps.body ≡ Some level.body = sym swaps.was ∙ level.was in
        again.is ∙ ap (λ (o : Option Body). with_place o) body
        ∙ ap (λ (ps : List Part). Some (record { form = swaps.body.form; parts = ps })) (set-set swaps.body.parts place Null below)
        ∙ ap (λ (o : Option Body). with_place o) same
        ∙ ap (λ (i : ℕ). Some (record { form = level.body.form; parts = set level.body.parts i below })) level.place_is
        ∙ sym (ap (λ (o : Option Body). with_step o step below) level.was)
      where
        with_place : Option Body → Option Body
        with_place None = None
        with_place (Some x) = Some (record { form = x.form; parts = set x.parts place below })

    pub place_puts : Puts s0 s3 whole (step ∷ rest) part (Key key)
    place_puts = record {
      copies = puts.copies;
      along = inl (record {
        key = key;
        whole_is = level.is_key;
        one = sole;
        made_is = sym level.is_key;
        below = below;
        is = put_back;
        goes_on = subst (λ (q : Part). PutAlong s0 (map_of s3) q rest part puts.copies below) place_part
            (put_along-same s0 s1 (map_of s2) (map_of s3) key rest inside part below puts.copies place_same place_avoids swaps.counts none1 there1 again.others puts.along);
      });
      others = λ k is. elim (cases_eq k key) [
        | inl e ↦ inr (inr (place_sole, inl (level.is_key ∙ ap (λ (i : ℕ). Key i) (sym e))))
        | inr differ ↦ elim (puts.others k (subst IsSome (sym (swaps.others k differ)) is)) [
          | inl gone ↦ inl (again.others k differ ∙ gone)
          | inr next ↦ elim next [
            | inl same ↦ inr (inl (again.others k differ ∙ same ∙ swaps.others k differ))
            | inr in_place ↦ inr (inr (place_sole, inr (subst (λ (q : Part). IsInPlace s0 k q rest) place_part (in_place-same s0 s1 k rest inside place_same swaps.counts in_place))))
          ]
        ]
      ];
      counted = last ∙ puts.counted ∙ ap (λ (n : ℕ). raised n puts.copies) first;
    }

  pub place_counts : (s2 s3 : Heap) (below : Part) → CountsCopies s1 s2 inside rest → Swaps s2 s3 key place below → s1.copies ≡ s0.copies → s3.copies ≡ s2.copies → (Sole s0 whole (step ∷ rest) → Sole s1 inside rest) → CountsCopies s0 s3 whole (step ∷ rest)
  place_counts s2 s3 below copies again first last forth = record {
    none = λ all. last ∙ copies.none (forth all) ∙ first;
    some = λ many.
        let made = copies.some (λ all. many (place_sole, subst (λ (q : Part). Sole s0 q rest) place_part (all_sole-same s0 s1 rest inside place_same swaps.counts all))) in (
          made.0,
          omega (arith, made.1, size_swapped s0 s1 key place Null swaps, size_swapped s2 s3 key place below again),
          last ∙ made.2 ∙ ap (λ (n : ℕ). raised n made.0) first,
        );
  }
