use Rattle.std.proofs.Common.{◌∙◌, ap, sym, subst}
use Rattle.std.proofs.lemmas.Option.{slice_get_within}
use Rattle.wy_heap.specs.Slots.{place_in, step_of, HasStep}
use Rattle.wy_heap.specs.Nodes.{map_of, at, form_in}
use Rattle.wy_heap.specs.declared.part.Slot.{Slot}
use Rattle.wy_heap.proofs.SlotLemmas.{shape_known, field_place}
use Rattle.wy_heap.proofs.heap.Heap.position.Goals as goal

pub fields_of-requires : goal.fields_of-requires
fields_of-requires c =
    let h = c.args.self.now in
    let there = c.requires.there in
    let known = shape_known h c.args.key c.index.result.now c.in-Record-Field.shape there.0 c.index.ensures c.in-Record-Field.is-0 there.1 in
    slice_get_within h.shapes.lists c.in-Record-Field.shape known.0 known.1

pub returns-in-Record-Field : goal.returns-in-Record-Field
returns-in-Record-Field c =
    let h = c.args.self.now in
    let there = c.requires.there in
    let has = subst (λ (s : Slot). HasStep there.0 (step_of h.shapes s)) c.in-Record-Field.is-1 there.2 in
    c.number_place.ensures
    ∙ field_place h c.args.key c.index.result.now c.in-Record-Field.shape c.in-Record-Field.field there.0 c.fields_of.result.now c.requires.table c.index.ensures c.in-Record-Field.is-0 has c.fields_of.ensures
    ∙ ap (λ (s : Slot). place_in (form_in (at (map_of h) c.args.key)) (step_of h.shapes s)) (sym c.in-Record-Field.is-1)
