use Rattle.wy_heap.specs.Nodes.{map_of}
use Rattle.wy_heap.specs.Slots.{part_at, step_of}
use Rattle.wy_mach.proofs.ShareLemmas.{same_part, no_part}
use Rattle.wy_mach.proofs.parts.second.Goals as goal

pub returns-in-Ok-clause-below : goal.returns-in-Ok-clause-below
returns-in-Ok-clause-below c under =
    let h = c.args.heap.now in
    let p = part_at (map_of h) c.args.place.now (step_of h.shapes c.args.slot) in
    let told = c.get.ensures.below under in
    (same_part c.in-Ok.made p c.get.result c.in-Ok.is told.0, told.1, told.2)

pub returns-in-Err-clause-memory : goal.returns-in-Err-clause-memory
returns-in-Err-clause-memory c none under =
    let h = c.args.heap.now in
    let p = part_at (map_of h) c.args.place.now (step_of h.shapes c.args.slot) in
    no_part c.in-Err.field-0 p c.get.result c.in-Err.is (c.get.ensures.below under).0
