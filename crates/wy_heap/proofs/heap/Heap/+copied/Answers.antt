use Rattle.std.proofs.Common.{◌-◌, ◌∷◌, [], List, length, take, drop, refl, sym, subst, arith, rules}
use Rattle.wy_value.specs.declared.shapes.Shapes.{Shapes}
use Rattle.wy_value.specs.Shapes.{IsShapes}
use Rattle.wy_heap.specs.declared.part.Part.TheVariants.{Key}
use Rattle.wy_heap.specs.Slots.{Step, part_of, steps_of, child, HasPath}
use Rattle.wy_heap.specs.Nodes.{map_of, at}
use Rattle.wy_heap.specs.Changing.{Wrote}
use Rattle.wy_heap.specs.Putting.{CopiesAlong, RoomForCopies}
use Rattle.wy_heap.proofs.LeadLemmas.{counts_same}
use Rattle.wy_heap.proofs.PutLevelLemmas.{copied_only, copied_exact}
use Rattle.wy_heap.proofs.PathLemmas.{path_split, first_of, rest_of, level_at, level_node, level_builds, level_slot, copy_hole, copied_inside, copied_wrote, copied_refused}
use Rattle.wy_heap.proofs.heap.Heap.+copied.Goals as goal

pub part_in-child-requires : goal.part_in-child-requires
part_in-child-requires t c =
    let h = c.args.self.now in
    let key = c.in-Key.key in
    let place = c.position-place.result in
    let path = c.args.path.now in
    let level = level_at h c.args.whole key place path (part_of (at (map_of h) key) place) c.in-Key.is c.requires.there c.in-len1-up.len_at_least c.position-place.ensures refl in
    level_node h c.args.whole key place _ _ _ level

pub copy_without-requires-clause-there : goal.copy_without-requires-clause-there
copy_without-requires-clause-there t c =
    let h = c.args.self.now in
    let key = c.in-Key.key in
    let place = c.position-place.result in
    let path = c.args.path.now in
    let level = level_at h c.args.whole key place path (part_of (at (map_of h) key) place) c.in-Key.is c.requires.there c.in-len1-up.len_at_least c.position-place.ensures refl in
    level_node h c.args.whole key place _ _ _ level

pub copied-requires : goal.copied-requires
copied-requires t c =
    let h = c.args.self.now in
    let key = c.in-Key.key in
    let place = c.position-place.result in
    let path = c.args.path.now in
    let level = level_at h c.args.whole key place path c.part_in-child.result c.in-Key.is c.requires.there c.in-len1-up.len_at_least c.position-place.ensures c.part_in-child.ensures in
    let held = c.requires.held in
    let s1 = c.copy_without.new.self in
    let top = c.in_ok-top.top in
    let shapes = c.in_ok-top.ensures.kept.1 in
    let builds = level_builds h c.args.whole key place (first_of h path) (rest_of h path) c.part_in-child.result level s1 top c.in_ok-top.ensures.builds in
    let hole = copy_hole h c.args.whole key place (first_of h path) (rest_of h path) c.part_in-child.result level s1 top builds c.args.part held.0 held.1 in (
      search rules,
      (
        (Key top ∷ held.0, hole.counts),
        (
          c.in_ok-top.ensures.within,
          (
            omega (arith, c.in_ok-top.ensures.kept.0, c.requires.some),
            (
              subst IsShapes (sym shapes) c.requires.table,
              (
                child level.value (first_of h path),
                copied_inside h c.args.whole key place (first_of h path) (rest_of h path) c.part_in-child.result level s1 top builds c.args.part held.0 held.1,
                subst (λ (u : Shapes). HasPath (child level.value (first_of h path)) (steps_of u (take (length path - 1) (drop 1 path)))) (sym shapes) level.path,
              ),
            ),
          ),
        ),
      ),
    )

pub swap-requires : goal.swap-requires
swap-requires t c =
    let h = c.args.self.now in
    let key = c.in-Key.key in
    let place = c.position-place.result in
    let path = c.args.path.now in
    let level = level_at h c.args.whole key place path c.part_in-child.result c.in-Key.is c.requires.there c.in-len1-up.len_at_least c.position-place.ensures c.part_in-child.ensures in
    let held = c.requires.held in
    let s1 = c.copy_without.new.self in
    let top = c.in_ok-top.top in
    let shapes = c.in_ok-top.ensures.kept.1 in
    let builds = level_builds h c.args.whole key place (first_of h path) (rest_of h path) c.part_in-child.result level s1 top c.in_ok-top.ensures.builds in
    let hole = copy_hole h c.args.whole key place (first_of h path) (rest_of h path) c.part_in-child.result level s1 top builds c.args.part held.0 held.1 in
    let s2 = c.copied.new.self in
    let wrote = subst (λ (t : Shapes). Wrote s1 s2 (c.args.part ∷ []) c.part_in-child.result (steps_of t (take (length path - 1) (drop 1 path))) c.args.part c.in-Ok.below) shapes c.in-Ok.ensures.wrote in
    level_slot s1 s2 top place _ _ _ (c.args.part ∷ []) held.0 hole c.part_in-child.result (rest_of h path) c.args.part c.in-Ok.below wrote

pub free-requires : goal.free-requires
free-requires t c =
    let h = c.args.self.now in
    let key = c.in-Key.key in
    let place = c.position-place.result in
    let path = c.args.path.now in
    let level = level_at h c.args.whole key place path c.part_in-child.result c.in-Key.is c.requires.there c.in-len1-up.len_at_least c.position-place.ensures c.part_in-child.ensures in
    let held = c.requires.held in
    let s1 = c.copy_without.new.self in
    let top = c.in_ok-top.top in
    let shapes = c.in_ok-top.ensures.kept.1 in
    let builds = level_builds h c.args.whole key place (first_of h path) (rest_of h path) c.part_in-child.result level s1 top c.in_ok-top.ensures.builds in
    let hole = copy_hole h c.args.whole key place (first_of h path) (rest_of h path) c.part_in-child.result level s1 top builds c.args.part held.0 held.1 in
    (c.args.part ∷ held.0, counts_same s1 c.copied.new.self (Key top ∷ c.args.part ∷ held.0) c.in-Err.ensures.no_memory (builds.counts (c.args.part ∷ held.0) held.1))

pub returns-in-Ok-clause-wrote : goal.returns-in-Ok-clause-wrote
returns-in-Ok-clause-wrote t c =
    let h = c.args.self.now in
    let key = c.in-Key.key in
    let place = c.position-place.result in
    let path = c.args.path.now in
    let level = level_at h c.args.whole key place path c.part_in-child.result c.in-Key.is c.requires.there c.in-len1-up.len_at_least c.position-place.ensures c.part_in-child.ensures in
    let held = c.requires.held in
    let s1 = c.copy_without.new.self in
    let top = c.in_ok-top.top in
    let shapes = c.in_ok-top.ensures.kept.1 in
    let builds = level_builds h c.args.whole key place (first_of h path) (rest_of h path) c.part_in-child.result level s1 top c.in_ok-top.ensures.builds in
    let hole = copy_hole h c.args.whole key place (first_of h path) (rest_of h path) c.part_in-child.result level s1 top builds c.args.part held.0 held.1 in
    let s2 = c.copied.new.self in
    let wrote = subst (λ (t : Shapes). Wrote s1 s2 (c.args.part ∷ []) c.part_in-child.result (steps_of t (take (length path - 1) (drop 1 path))) c.args.part c.in-Ok.below) shapes c.in-Ok.ensures.wrote in
    subst (λ (l : List Step). Wrote h c.swap.new.self (c.args.part ∷ []) c.args.whole l c.args.part (Key top)) (sym (path_split h.shapes path c.in-len1-up.len_at_least))
    (copied_wrote h c.args.whole key place (first_of h path) (rest_of h path) c.part_in-child.result level s1 top builds c.args.part held s2 c.swap.new.self c.in-Ok.below c.swap.result wrote c.swap.ensures.swaps c.swap.ensures.out)

pub returns-in-Err-clause-no_memory : goal.returns-in-Err-clause-no_memory
returns-in-Err-clause-no_memory t c =
    let h = c.args.self.now in
    let key = c.in-Key.key in
    let place = c.position-place.result in
    let path = c.args.path.now in
    let level = level_at h c.args.whole key place path c.part_in-child.result c.in-Key.is c.requires.there c.in-len1-up.len_at_least c.position-place.ensures c.part_in-child.ensures in
    let held = c.requires.held in
    let s1 = c.copy_without.new.self in
    let top = c.in_ok-top.top in
    let shapes = c.in_ok-top.ensures.kept.1 in
    let builds = level_builds h c.args.whole key place (first_of h path) (rest_of h path) c.part_in-child.result level s1 top c.in_ok-top.ensures.builds in
    let hole = copy_hole h c.args.whole key place (first_of h path) (rest_of h path) c.part_in-child.result level s1 top builds c.args.part held.0 held.1 in
    copied_refused h s1 c.copied.new.self c.free.new.self level.body.form _ top (c.args.part ∷ held.0) builds held.1 c.in-Err.ensures.no_memory c.free.ensures.leads c.free.ensures.upheld

pub returns-in-Ok-clause-only : goal.returns-in-Ok-clause-only
returns-in-Ok-clause-only t c =
    let h = c.args.self.now in
    let builds = c.in_ok-top.ensures.builds in
    copied_only h c.copy_without.new.self c.copied.new.self c.swap.new.self c.in_ok-top.top c.position-place.result c.in-Ok.below builds.vacant builds.stays builds.more
    c.in_ok-top.ensures.copies c.in-Ok.ensures.only c.swap.ensures.swaps c.swap.ensures.rest.copies

pub returns-in-Ok-clause-room : goal.returns-in-Ok-clause-room
returns-in-Ok-clause-room t c room =
    let h = c.args.self.now in
    let key = c.in-Key.key in
    let place = c.position-place.result in
    let path = c.args.path.now in
    let level = level_at h c.args.whole key place path c.part_in-child.result c.in-Key.is c.requires.there c.in-len1-up.len_at_least c.position-place.ensures c.part_in-child.ensures in
    let held = c.requires.held in
    let s1 = c.copy_without.new.self in
    let s2 = c.copied.new.self in
    let shapes = c.in_ok-top.ensures.kept.1 in
    let inside = c.part_in-child.result in
    let goes_on = subst (λ (t : Shapes). RoomForCopies s1 inside (steps_of t (take (length path - 1) (drop 1 path))) → CopiesAlong s1 s2 inside (steps_of t (take (length path - 1) (drop 1 path))) c.args.part c.in-Ok.below) shapes c.in-Ok.ensures.room in
    subst (λ (l : List Step). CopiesAlong h c.swap.new.self c.args.whole l c.args.part (Key c.in_ok-top.top)) (sym (path_split h.shapes path c.in-len1-up.len_at_least))
    (copied_exact h c.args.whole key place (first_of h path) (rest_of h path) inside level s1 c.in_ok-top.top (c.args.part ∷ held.0) held.1 c.in_ok-top.ensures.room c.requires.some c.in_ok-top.ensures.kept.0
    c.in_ok-top.ensures.builds.stays s2 c.swap.new.self c.args.part c.in-Ok.below c.in-Ok.ensures.only.stays goes_on c.swap.ensures.swaps c.swap.ensures.rest.copies
    (subst (RoomForCopies h c.args.whole) (path_split h.shapes path c.in-len1-up.len_at_least) room))
