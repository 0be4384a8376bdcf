use Rattle.std.proofs.Common.{◌≡◌, ◌-◌, ◌∷◌, [], List, length, take, drop, refl, sym, subst, ap, ◌∙◌, arith, rules}
use Rattle.wy_value.specs.declared.shapes.Shapes.{Shapes}
use Rattle.wy_value.specs.Shapes.{IsShapes}
use Rattle.wy_heap.specs.declared.part.Part.{Part}
use Rattle.wy_heap.specs.declared.part.Part.TheVariants.{Key}
use Rattle.wy_heap.specs.Slots.{Step, part_of, steps_of, child, HasPath}
use Rattle.wy_heap.specs.Nodes.{map_of, at, count_at, count_of}
use Rattle.wy_heap.specs.Changing.{Wrote}
use Rattle.wy_heap.specs.Putting.{Sole, CountsCopies, Puts, RoomAlong}
use Rattle.wy_heap.proofs.PathLemmas.{path_split, path_nil, first_of, rest_of, level_at, level_node, level_slot, level_there, end_wrote}
use Rattle.wy_heap.proofs.PlaceLemmas.{place_hole, place_inside, place_wrote, place_refused, refused_slot, sole_inside}
use Rattle.wy_heap.proofs.PutLevelLemmas.{end_puts, place_room, place_puts, place_counts}
use Rattle.wy_heap.proofs.heap.Heap.+written.Goals as goal

pub returns-in_default-clause-wrote : goal.returns-in_default-clause-wrote
returns-in_default-clause-wrote t c =
    let h = c.args.self.now in
    subst (λ (l : List Step). Wrote h c.free.new.self (c.args.whole ∷ c.args.part ∷ []) c.args.whole l c.args.part c.args.part) (sym (path_nil h.shapes c.args.path.now c.in_default.len_below))
    (end_wrote h c.free.new.self c.args.whole c.args.part c.requires.held c.free.ensures.leads c.free.ensures.lasts)

pub swap-child-requires : goal.swap-child-requires
swap-child-requires t c =
    let h = c.args.self.now in
    let key = c.in-Key.key in
    let place = c.position-place.result in
    let path = c.args.path.now in
    let level = level_at h c.args.whole key place path (part_of (at (map_of h) key) place) c.in-Key.is c.requires.there c.in-len1-up.len_at_least c.position-place.ensures refl in
    level_node h c.args.whole key place _ _ _ level

pub written-requires : goal.written-requires
written-requires t c =
    let h = c.args.self.now in
    let key = c.in-Key.key in
    let place = c.position-place.result in
    let path = c.args.path.now in
    let level = level_at h c.args.whole key place path c.swap-child.result c.in-Key.is c.requires.there c.in-len1-up.len_at_least c.position-place.ensures c.swap-child.ensures.out in
    let held = c.requires.held in
    let s1 = c.swap-child.new.self in
    let swaps = c.swap-child.ensures.swaps in
    let shapes = c.swap-child.ensures.rest.shapes in
    let sole : count_at h key ≡ 1 = ap count_of c.index.ensures ∙ c.if-index-eq-SOLE.true in
    let hole = place_hole h c.args.whole key place (first_of h path) (rest_of h path) c.swap-child.result level s1 swaps sole c.args.part held.0 held.1 in (
      search rules,
      (
        (Key key ∷ held.0, hole.counts),
        (
          (λ k. omega (arith, swaps.counts k, c.requires.within k, c.swap-child.ensures.rest.cap)),
          (
            omega (arith, c.swap-child.ensures.rest.cap, c.requires.some),
            (
              subst IsShapes (sym shapes) c.requires.table,
              (
                child level.value (first_of h path),
                place_inside h c.args.whole key place (first_of h path) (rest_of h path) c.swap-child.result level s1 swaps sole c.args.part held.0 held.1,
                subst (λ (u : Shapes). HasPath (child level.value (first_of h path)) (steps_of u (take (length path - 1) (drop 1 path)))) (sym shapes) level.path,
              ),
            ),
          ),
        ),
      ),
    )

pub lay-requires : goal.lay-requires
lay-requires t c =
    let h = c.args.self.now in
    let key = c.in-Key.key in
    let place = c.position-place.result in
    let path = c.args.path.now in
    let level = level_at h c.args.whole key place path c.swap-child.result c.in-Key.is c.requires.there c.in-len1-up.len_at_least c.position-place.ensures c.swap-child.ensures.out in
    let held = c.requires.held in
    let s1 = c.swap-child.new.self in
    let swaps = c.swap-child.ensures.swaps in
    let shapes = c.swap-child.ensures.rest.shapes in
    let sole : count_at h key ≡ 1 = ap count_of c.index.ensures ∙ c.if-index-eq-SOLE.true in
    let hole = place_hole h c.args.whole key place (first_of h path) (rest_of h path) c.swap-child.result level s1 swaps sole c.args.part held.0 held.1 in
    let s2 = c.written.new.self in
    let wrote = subst (λ (u : Shapes). Wrote s1 s2 (c.swap-child.result ∷ c.args.part ∷ []) c.swap-child.result (steps_of u (take (length path - 1) (drop 1 path))) c.args.part c.in-Ok.below) shapes c.in-Ok.ensures.wrote in
    level_slot s1 s2 key place _ _ _ (c.swap-child.result ∷ c.args.part ∷ []) held.0 hole c.swap-child.result (rest_of h path) c.args.part c.in-Ok.below wrote

pub swap-requires : goal.swap-requires
swap-requires t c =
    let h = c.args.self.now in
    let key = c.in-Key.key in
    let place = c.position-place.result in
    let path = c.args.path.now in
    let level = level_at h c.args.whole key place path c.swap-child.result c.in-Key.is c.requires.there c.in-len1-up.len_at_least c.position-place.ensures c.swap-child.ensures.out in
    let held = c.requires.held in
    let s1 = c.swap-child.new.self in
    let swaps = c.swap-child.ensures.swaps in
    let shapes = c.swap-child.ensures.rest.shapes in
    let sole : count_at h key ≡ 1 = ap count_of c.index.ensures ∙ c.if-index-eq-SOLE.true in
    let hole = place_hole h c.args.whole key place (first_of h path) (rest_of h path) c.swap-child.result level s1 swaps sole c.args.part held.0 held.1 in
    refused_slot s1 c.written.new.self key place _ _ _ (c.swap-child.result ∷ c.args.part ∷ []) held.0 hole c.in-Err.ensures.no_memory

pub returns-in-Ok-clause-wrote : goal.returns-in-Ok-clause-wrote
returns-in-Ok-clause-wrote t c =
    let h = c.args.self.now in
    let key = c.in-Key.key in
    let place = c.position-place.result in
    let path = c.args.path.now in
    let level = level_at h c.args.whole key place path c.swap-child.result c.in-Key.is c.requires.there c.in-len1-up.len_at_least c.position-place.ensures c.swap-child.ensures.out in
    let held = c.requires.held in
    let s1 = c.swap-child.new.self in
    let swaps = c.swap-child.ensures.swaps in
    let shapes = c.swap-child.ensures.rest.shapes in
    let sole : count_at h key ≡ 1 = ap count_of c.index.ensures ∙ c.if-index-eq-SOLE.true in
    let hole = place_hole h c.args.whole key place (first_of h path) (rest_of h path) c.swap-child.result level s1 swaps sole c.args.part held.0 held.1 in
    let s2 = c.written.new.self in
    let wrote = subst (λ (u : Shapes). Wrote s1 s2 (c.swap-child.result ∷ c.args.part ∷ []) c.swap-child.result (steps_of u (take (length path - 1) (drop 1 path))) c.args.part c.in-Ok.below) shapes c.in-Ok.ensures.wrote in
    subst (λ (l : List Step). Wrote h c.lay.new.self (c.args.whole ∷ c.args.part ∷ []) c.args.whole l c.args.part (Key key)) (sym (path_split h.shapes path c.in-len1-up.len_at_least))
    (place_wrote h c.args.whole key place (first_of h path) (rest_of h path) c.swap-child.result level s1 swaps sole c.args.part held s2 c.lay.new.self c.in-Ok.below (part_of (at (map_of s2) key) place) wrote c.lay.ensures.swaps refl)

pub returns-in-Err-clause-no_memory : goal.returns-in-Err-clause-no_memory
returns-in-Err-clause-no_memory t c =
    let h = c.args.self.now in
    let key = c.in-Key.key in
    let place = c.position-place.result in
    let path = c.args.path.now in
    let level = level_at h c.args.whole key place path c.swap-child.result c.in-Key.is c.requires.there c.in-len1-up.len_at_least c.position-place.ensures c.swap-child.ensures.out in
    let held = c.requires.held in
    let s1 = c.swap-child.new.self in
    let swaps = c.swap-child.ensures.swaps in
    let shapes = c.swap-child.ensures.rest.shapes in
    let sole : count_at h key ≡ 1 = ap count_of c.index.ensures ∙ c.if-index-eq-SOLE.true in
    let hole = place_hole h c.args.whole key place (first_of h path) (rest_of h path) c.swap-child.result level s1 swaps sole c.args.part held.0 held.1 in
    place_refused h c.args.whole key place (first_of h path) (rest_of h path) c.swap-child.result level s1 c.written.new.self c.swap.new.self swaps c.in-Err.ensures.no_memory c.swap.ensures.swaps

pub returns-in-Err-clause-sole : goal.returns-in-Err-clause-sole
returns-in-Err-clause-sole t c all_sole =
    let h = c.args.self.now in
    let key = c.in-Key.key in
    let place = c.position-place.result in
    let path = c.args.path.now in
    let level = level_at h c.args.whole key place path c.swap-child.result c.in-Key.is c.requires.there c.in-len1-up.len_at_least c.position-place.ensures c.swap-child.ensures.out in
    let held = c.requires.held in
    let s1 = c.swap-child.new.self in
    let swaps = c.swap-child.ensures.swaps in
    let shapes = c.swap-child.ensures.rest.shapes in
    let sole : count_at h key ≡ 1 = ap count_of c.index.ensures ∙ c.if-index-eq-SOLE.true in
    let hole = place_hole h c.args.whole key place (first_of h path) (rest_of h path) c.swap-child.result level s1 swaps sole c.args.part held.0 held.1 in
    c.in-Err.ensures.sole
    (subst (λ (u : Shapes). Sole s1 c.swap-child.result (steps_of u (take (length path - 1) (drop 1 path)))) (sym shapes)
    (sole_inside h c.args.whole key place (first_of h path) (rest_of h path) c.swap-child.result level s1 swaps sole (c.args.part ∷ held.0) held.1
    (subst (Sole h c.args.whole) (path_split h.shapes path c.in-len1-up.len_at_least) all_sole)))

pub returns-in_default-clause-room : goal.returns-in_default-clause-room
returns-in_default-clause-room t c room =
    let h = c.args.self.now in
    subst (λ (l : List Step). Puts h c.free.new.self c.args.whole l c.args.part c.args.part) (sym (path_nil h.shapes c.args.path.now c.in_default.len_below))
    (end_puts h c.free.new.self c.args.whole c.args.part c.free.ensures.lasts c.free.ensures.rest.copies)

pub returns-in-Ok-clause-copies : goal.returns-in-Ok-clause-copies
returns-in-Ok-clause-copies t c =
    let h = c.args.self.now in
    let key = c.in-Key.key in
    let place = c.position-place.result in
    let path = c.args.path.now in
    let level = level_at h c.args.whole key place path c.swap-child.result c.in-Key.is c.requires.there c.in-len1-up.len_at_least c.position-place.ensures c.swap-child.ensures.out in
    let held = c.requires.held in
    let s1 = c.swap-child.new.self in
    let swaps = c.swap-child.ensures.swaps in
    let shapes = c.swap-child.ensures.rest.shapes in
    let sole : count_at h key ≡ 1 = ap count_of c.index.ensures ∙ c.if-index-eq-SOLE.true in
    let s2 = c.written.new.self in
    let further = subst (λ (u : Shapes). CountsCopies s1 s2 c.swap-child.result (steps_of u (take (length path - 1) (drop 1 path)))) shapes c.in-Ok.ensures.copies in
    subst (CountsCopies h c.lay.new.self c.args.whole) (sym (path_split h.shapes path c.in-len1-up.len_at_least))
    (place_counts h c.args.whole key place (first_of h path) (rest_of h path) c.swap-child.result level s1 swaps sole (c.args.part ∷ held.0) held.1 s2 c.lay.new.self c.in-Ok.below further c.lay.ensures.swaps
    c.swap-child.ensures.rest.copies c.lay.ensures.rest.copies
    (sole_inside h c.args.whole key place (first_of h path) (rest_of h path) c.swap-child.result level s1 swaps sole (c.args.part ∷ held.0) held.1))

pub returns-in-Ok-clause-room : goal.returns-in-Ok-clause-room
returns-in-Ok-clause-room t c room =
    let h = c.args.self.now in
    let key = c.in-Key.key in
    let place = c.position-place.result in
    let path = c.args.path.now in
    let level = level_at h c.args.whole key place path c.swap-child.result c.in-Key.is c.requires.there c.in-len1-up.len_at_least c.position-place.ensures c.swap-child.ensures.out in
    let held = c.requires.held in
    let s1 = c.swap-child.new.self in
    let swaps = c.swap-child.ensures.swaps in
    let shapes = c.swap-child.ensures.rest.shapes in
    let sole : count_at h key ≡ 1 = ap count_of c.index.ensures ∙ c.if-index-eq-SOLE.true in
    let hole = place_hole h c.args.whole key place (first_of h path) (rest_of h path) c.swap-child.result level s1 swaps sole c.args.part held.0 held.1 in
    let s2 = c.written.new.self in
    let inside = c.swap-child.result in
    let wrote = subst (λ (u : Shapes). Wrote s1 s2 (inside ∷ c.args.part ∷ []) inside (steps_of u (take (length path - 1) (drop 1 path))) c.args.part c.in-Ok.below) shapes c.in-Ok.ensures.wrote in
    let has = place_room h c.args.whole key place (first_of h path) (rest_of h path) inside level s1 swaps sole (c.args.part ∷ held.0) held.1 c.swap-child.ensures.rest.cap
    (subst (RoomAlong h c.args.whole) (path_split h.shapes path c.in-len1-up.len_at_least) room) in
    let further = subst (λ (u : Shapes). RoomAlong s1 inside (steps_of u (take (length path - 1) (drop 1 path))) → Puts s1 s2 inside (steps_of u (take (length path - 1) (drop 1 path))) c.args.part c.in-Ok.below) shapes c.in-Ok.ensures.room in
    let there = level_there s1 s2 key place _ _ _ (inside ∷ c.args.part ∷ []) held.0 hole inside (rest_of h path) c.args.part c.in-Ok.below wrote in
    subst (λ (l : List Step). Puts h c.lay.new.self c.args.whole l c.args.part (Key key)) (sym (path_split h.shapes path c.in-len1-up.len_at_least))
    (place_puts h c.args.whole key place (first_of h path) (rest_of h path) inside level s1 swaps sole (c.args.part ∷ held.0) held.1 s2 c.lay.new.self c.args.part c.in-Ok.below (further has) c.lay.ensures.swaps there
    c.swap-child.ensures.rest.copies c.lay.ensures.rest.copies)

pub returns-then-is_empty-clause-wrote : goal.returns-then-is_empty-clause-wrote
returns-then-is_empty-clause-wrote t c =
    let h = c.args.self.now in
    subst (λ (w : Part). Wrote h c.put_here.new.self (w ∷ c.args.part ∷ []) w (steps_of h.shapes c.args.path.now) c.args.part (Key c.in-Key.key)) (sym c.in-Key.is) c.put_here.ensures.wrote

pub returns-then-is_empty-clause-room : goal.returns-then-is_empty-clause-room
returns-then-is_empty-clause-room t c room =
    let h = c.args.self.now in
    let path = steps_of h.shapes c.args.path.now in
    subst (λ (w : Part). Puts h c.put_here.new.self w path c.args.part (Key c.in-Key.key)) (sym c.in-Key.is)
    (c.put_here.ensures.room (subst (λ (w : Part). RoomAlong h w path) c.in-Key.is room))
