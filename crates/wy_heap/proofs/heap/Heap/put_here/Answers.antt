use Rattle.std.proofs.Common.{◌≡◌, ◌-◌, ◌∷◌, [], List, length, take, drop, refl, sym, subst, arith, rules}
use Rattle.wy_value.specs.declared.shapes.Shapes.{Shapes}
use Rattle.wy_heap.specs.declared.part.Part.TheVariants.{Key}
use Rattle.wy_heap.specs.Slots.{Step, part_of, steps_of}
use Rattle.wy_heap.specs.Nodes.{map_of, at, count_at}
use Rattle.wy_heap.specs.Changing.{Wrote}
use Rattle.wy_heap.specs.Putting.{Puts, RoomAlong}
use Rattle.wy_heap.proofs.PathLemmas.{path_split, path_nil, first_of, rest_of, level_at, level_node, level_slot, level_there, end_wrote}
use Rattle.wy_heap.proofs.PlaceLemmas.{place_hole, place_wrote}
use Rattle.wy_heap.proofs.PutLevelLemmas.{end_puts, place_puts}
use Rattle.wy_heap.proofs.heap.Heap.put_here.Goals as goal

pub swap-child-requires : goal.swap-child-requires
swap-child-requires c =
    let h = c.args.self.now in
    let key = c.args.key in
    let place = c.position-place.result in
    let path = c.args.path.now in
    let level = level_at h (Key key) key place path (part_of (at (map_of h) key) place) refl c.requires.there c.in-len1-up.len_at_least c.position-place.ensures refl in
    level_node h (Key key) key place _ _ _ level

pub free-requires : goal.free-requires
free-requires c =
    let h = c.args.self.now in
    let key = c.args.key in
    let place = c.position-place.result in
    let path = c.args.path.now in
    let level = level_at h (Key key) key place path c.swap-child.result refl c.requires.there c.in-len1-up.len_at_least c.position-place.ensures c.swap-child.ensures.out in
    let held = c.requires.held in
    let s1 = c.swap-child.new.self in
    let swaps = c.swap-child.ensures.swaps in
    let shapes = c.swap-child.ensures.rest.shapes in
    let sole : count_at h key ≡ 1 = c.requires.sole in
    let hole = place_hole h (Key key) key place (first_of h path) (rest_of h path) c.swap-child.result level s1 swaps sole c.args.part held.0 held.1 in
    let inside = c.swap-child.result in
    (c.args.part ∷ Key key ∷ held.0, hole.counts)

pub lay-requires : goal.lay-requires
lay-requires c =
    let h = c.args.self.now in
    let key = c.args.key in
    let place = c.position-place.result in
    let path = c.args.path.now in
    let level = level_at h (Key key) key place path c.swap-child.result refl c.requires.there c.in-len1-up.len_at_least c.position-place.ensures c.swap-child.ensures.out in
    let held = c.requires.held in
    let s1 = c.swap-child.new.self in
    let swaps = c.swap-child.ensures.swaps in
    let shapes = c.swap-child.ensures.rest.shapes in
    let sole : count_at h key ≡ 1 = c.requires.sole in
    let hole = place_hole h (Key key) key place (first_of h path) (rest_of h path) c.swap-child.result level s1 swaps sole c.args.part held.0 held.1 in
    let inside = c.swap-child.result in
    let s2 = c.free.new.self in
    let below : rest_of h path ≡ [] = path_nil h.shapes (take (length path - 1) (drop 1 path)) (search rules) in
    let wrote = subst (λ (l : List Step). Wrote s1 s2 (inside ∷ c.args.part ∷ []) inside l c.args.part c.args.part) (sym below)
    (end_wrote s1 s2 inside c.args.part (Key key ∷ held.0, hole.counts) c.free.ensures.leads c.free.ensures.lasts) in
    level_slot s1 s2 key place _ _ _ (inside ∷ c.args.part ∷ []) held.0 hole inside (rest_of h path) c.args.part c.args.part wrote

pub returns-clause-wrote : goal.returns-clause-wrote
returns-clause-wrote c =
    let h = c.args.self.now in
    let key = c.args.key in
    let place = c.position-place.result in
    let path = c.args.path.now in
    let level = level_at h (Key key) key place path c.swap-child.result refl c.requires.there c.in-len1-up.len_at_least c.position-place.ensures c.swap-child.ensures.out in
    let held = c.requires.held in
    let s1 = c.swap-child.new.self in
    let swaps = c.swap-child.ensures.swaps in
    let shapes = c.swap-child.ensures.rest.shapes in
    let sole : count_at h key ≡ 1 = c.requires.sole in
    let hole = place_hole h (Key key) key place (first_of h path) (rest_of h path) c.swap-child.result level s1 swaps sole c.args.part held.0 held.1 in
    let inside = c.swap-child.result in
    let s2 = c.free.new.self in
    let below : rest_of h path ≡ [] = path_nil h.shapes (take (length path - 1) (drop 1 path)) (search rules) in
    let wrote = subst (λ (l : List Step). Wrote s1 s2 (inside ∷ c.args.part ∷ []) inside l c.args.part c.args.part) (sym below)
    (end_wrote s1 s2 inside c.args.part (Key key ∷ held.0, hole.counts) c.free.ensures.leads c.free.ensures.lasts) in
    subst (λ (l : List Step). Wrote h c.lay.new.self ((Key key) ∷ c.args.part ∷ []) (Key key) l c.args.part (Key key)) (sym (path_split h.shapes path c.in-len1-up.len_at_least))
    (place_wrote h (Key key) key place (first_of h path) (rest_of h path) inside level s1 swaps sole c.args.part held s2 c.lay.new.self c.args.part (part_of (at (map_of s2) key) place) wrote c.lay.ensures.swaps refl)

pub returns-clause-room : goal.returns-clause-room
returns-clause-room c room =
    let h = c.args.self.now in
    let key = c.args.key in
    let place = c.position-place.result in
    let path = c.args.path.now in
    let level = level_at h (Key key) key place path c.swap-child.result refl c.requires.there c.in-len1-up.len_at_least c.position-place.ensures c.swap-child.ensures.out in
    let held = c.requires.held in
    let s1 = c.swap-child.new.self in
    let swaps = c.swap-child.ensures.swaps in
    let shapes = c.swap-child.ensures.rest.shapes in
    let sole : count_at h key ≡ 1 = c.requires.sole in
    let hole = place_hole h (Key key) key place (first_of h path) (rest_of h path) c.swap-child.result level s1 swaps sole c.args.part held.0 held.1 in
    let inside = c.swap-child.result in
    let s2 = c.free.new.self in
    let below : rest_of h path ≡ [] = path_nil h.shapes (take (length path - 1) (drop 1 path)) (search rules) in
    let wrote = subst (λ (l : List Step). Wrote s1 s2 (inside ∷ c.args.part ∷ []) inside l c.args.part c.args.part) (sym below)
    (end_wrote s1 s2 inside c.args.part (Key key ∷ held.0, hole.counts) c.free.ensures.leads c.free.ensures.lasts) in
    let further : Puts s1 s2 inside (rest_of h path) c.args.part c.args.part =
    subst (λ (l : List Step). Puts s1 s2 inside l c.args.part c.args.part) (sym below) (end_puts s1 s2 inside c.args.part c.free.ensures.lasts c.free.ensures.rest.copies) in
    let there = level_there s1 s2 key place _ _ _ (inside ∷ c.args.part ∷ []) held.0 hole inside (rest_of h path) c.args.part c.args.part wrote in
    subst (λ (l : List Step). Puts h c.lay.new.self (Key key) l c.args.part (Key key)) (sym (path_split h.shapes path c.in-len1-up.len_at_least))
    (place_puts h (Key key) key place (first_of h path) (rest_of h path) inside level s1 swaps sole (c.args.part ∷ held.0) held.1 s2 c.lay.new.self c.args.part c.args.part further c.lay.ensures.swaps there
    c.swap-child.ensures.rest.copies c.lay.ensures.rest.copies)
