use Rattle.std.proofs.Common.{◌<◌, ◌≤◌, length, sym, subst, rules}
use Rattle.std.proofs.lemmas.Option.{slice_get_within}
use Rattle.wy_heap.specs.declared.part.Part.TheVariants.{Key}
use Rattle.wy_heap.specs.Slots.{IsSlot}
use Rattle.wy_heap.proofs.SlotLemmas.{shape_known, means_there}
use Rattle.wy_heap.proofs.RowSlotLemmas.{array_slot, record_slot, array_absent, record_absent}
use Rattle.wy_heap.proofs.finding.node_has_slot.Goals as goal

pub index-node-requires : goal.index-node-requires
index-node-requires c = means_there c.args.heap.now c.requires.meant.0 (Key c.args.key) c.requires.meant.1

pub has_field-requires : goal.has_field-requires
has_field-requires c =
    let h = c.args.heap.now in
    let meant = c.requires.meant in
    let known = shape_known h c.args.key c.index-node.result.now c.in-Record-Field.shape meant.0 c.index-node.ensures c.in-Record-Field.is-0 meant.1 in
    slice_get_within h.shapes.lists c.in-Record-Field.shape known.0 known.1

pub returns-in-Record-Field : goal.returns-in-Record-Field
returns-in-Record-Field c =
    let h = c.args.heap.now in
    record {
      yes = λ holds_so.
          let found = c.has_field.ensures.yes holds_so in
          subst (IsSlot h (Key c.args.key)) (sym c.in-Record-Field.is-1)
          (record_slot h c.args.key c.index-node.result.now c.in-Record-Field.shape c.in-Record-Field.field found.0 c.requires.meant c.requires.table c.index-node.ensures c.in-Record-Field.is-0 found.1 found.2);
      no = λ absent slot.
          let meant = c.requires.meant in
          let known = shape_known h c.args.key c.index-node.result.now c.in-Record-Field.shape meant.0 c.index-node.ensures c.in-Record-Field.is-0 meant.1 in
          record_absent h c.args.key c.index-node.result.now c.in-Record-Field.shape c.in-Record-Field.field known.0 c.requires.table c.index-node.ensures c.in-Record-Field.is-0 known.1 (c.has_field.ensures.no absent known.0 known.1)
          (subst (IsSlot h (Key c.args.key)) c.in-Record-Field.is-1 slot);
    }

pub returns-in-Array-Item : goal.returns-in-Array-Item
returns-in-Array-Item c =
    let h = c.args.heap.now in
    record {
      yes = λ holds_so.
          let below : c.in-Array-Item.index < length c.index-node.result.now.parts.items = search rules in
          subst (IsSlot h (Key c.args.key)) (sym c.in-Array-Item.is-1)
          (array_slot h c.args.key c.index-node.result.now c.in-Array-Item.index c.requires.meant c.index-node.ensures c.in-Array-Item.is-0 below);
      no = λ absent slot.
          let beyond : length c.index-node.result.now.parts.items ≤ c.in-Array-Item.index = search rules in
          array_absent h c.args.key c.index-node.result.now c.in-Array-Item.index c.index-node.ensures beyond
          (subst (IsSlot h (Key c.args.key)) c.in-Array-Item.is-1 slot);
    }
