use Rattle.std.proofs.Common.{◌∙◌, sym, ap}
use Rattle.wy_heap.specs.declared.part.Part.{Part}
use Rattle.wy_heap.specs.Slots.{step_of, part_of, part_at}
use Rattle.wy_heap.specs.Nodes.{map_of, at}
use Rattle.wy_heap.proofs.SlotLemmas.{slot_there}
use Rattle.wy_heap.proofs.heap.Heap.child.Goals as goal

pub part_in-requires : goal.part_in-requires
part_in-requires c =
    let h = c.args.self.now in
    let there = c.requires.there in
    slot_there h c.args.whole c.in-Key.key there.0 (step_of h.shapes c.args.slot) c.position-place.result c.in-Key.is there.1 there.2 c.position-place.ensures

pub returns : goal.returns
returns c =
    let h = c.args.self.now in
    c.part_in.ensures ∙ ap (part_of (at (map_of h) c.in-Key.key)) c.position-place.ensures
    ∙ sym (ap (λ (q : Part). part_at (map_of h) q (step_of h.shapes c.args.slot)) c.in-Key.is)
