use Rattle.std.proofs.Common.{◌≡◌, ◌+◌, ℕ, List, None, refl, ap, ◌∙◌}
use Rattle.slab.specs.Slab.{Slab}
use Rattle.wy_value.specs.declared.shapes.Shapes.{Shapes}
use Rattle.wy_heap.specs.declared.part.Part.{Part}
use Rattle.wy_heap.specs.declared.node.Node.{Node}
use Rattle.wy_heap.specs.declared.heap.Heap.{Heap}
use Rattle.wy_heap.specs.Nodes.{form_of, count_at, held}
use Rattle.wy_heap.proofs.LeadLemmas.{same_slots}
use Rattle.wy_heap.proofs.WriteLemmas.{joined_by}
use Rattle.wy_heap.proofs.heap.Heap.join.Goals as goal

pub insert_reserved-requires : goal.insert_reserved-requires
insert_reserved-requires c = c.hold_all.ensures.room 1 c.in_ok-reserve.ensures.room

pub returns-clause-joins : goal.returns-clause-joins
returns-clause-joins c =
    let h = c.args.self.now in
    let room : Heap = record h { nodes = c.reserve.new.self } in
    let more = c.hold_all.new.self in
    let node : Node = record { count = 1; next = None; shape = c.args.shape; parts = c.args.parts } in
    let same = same_slots h room (ap (λ (s : Slab Node). s.slots) c.reserve.ensures.rest_kept) refl in
    let counts : (k : ℕ) → count_at more k ≡ count_at room k + held k c.args.parts.items =
    λ k. c.hold_all.ensures.counts k ∙ ap (λ (ps : List Part). count_at room k + held k ps) c.deref.ensures.value in
    joined_by h room more (record more { nodes = c.insert_reserved.new.self }) c.insert_reserved.result node (form_of h.shapes c.args.shape)
    same.nodes same.counts c.hold_all.ensures.nodes counts c.insert_reserved.ensures.was_vacant (record { shapes = refl; updates = c.insert_reserved.ensures.updates }) refl
    (ap (λ (t : Shapes). form_of t c.args.shape) c.hold_all.ensures.rest.shapes)
