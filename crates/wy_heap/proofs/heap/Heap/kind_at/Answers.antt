use Rattle.std.proofs.Common.{◌≡◌, sym, ◌∙◌, ap, subst}
use Rattle.wy_value.specs.Datum.{Datum}
use Rattle.wy_heap.specs.declared.part.Part.{Part}
use Rattle.wy_heap.specs.Nodes.{map_of}
use Rattle.wy_heap.specs.Meaning.{Means, IsMeant}
use Rattle.wy_heap.specs.Slots.{HasStep, child, step_of, part_at, IsSlot}
use Rattle.wy_heap.proofs.MeaningLemmas.{means_unique}
use Rattle.wy_heap.proofs.SlotLemmas.{child_means}
use Rattle.wy_heap.proofs.heap.Heap.kind_at.Goals as goal

pub child-part-requires-clause-there : goal.child-part-requires-clause-there
child-part-requires-clause-there c = subst (λ (q : Part). IsSlot c.args.self.now q c.args.s) (sym c.part.ensures) c.requires.there

pub part_kind-requires : goal.part_kind-requires
part_kind-requires c =
    let h = c.args.self.now in
    let slot = c.requires.there in
    let step = step_of h.shapes c.args.s in
    let is : c.child-part.result ≡ part_at (map_of h) c.args.p.now step = c.child-part.ensures ∙ ap (λ (q : Part). part_at (map_of h) q step) c.part.ensures in
    record { meant = subst (IsMeant (map_of h)) (sym is) (child slot.0 step, child_means h c.args.p.now slot.0 step slot.1 slot.2) }

pub returns : goal.returns
returns c = record {
  value = λ d means.
      let h = c.args.self.now in
      let slot = c.requires.there in
      let step = step_of h.shapes c.args.s in
      let is : c.child-part.result ≡ part_at (map_of h) c.args.p.now step = c.child-part.ensures ∙ ap (λ (q : Part). part_at (map_of h) q step) c.part.ensures in
      let has : HasStep d step = subst (λ (e : Datum). HasStep e step) (means_unique (map_of h) slot.0 d c.args.p.now slot.1 means) slot.2 in
      c.part_kind.ensures (child d step) (subst (Means (map_of h) (child d step)) (sym is) (child_means h c.args.p.now d step means has));
}
