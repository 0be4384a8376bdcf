use Rattle.std.proofs.Common.{◌∙◌, sym, ap, subst}
use Rattle.wy_value.specs.Datum.{Datum}
use Rattle.wy_heap.specs.declared.part.Part.{Part}
use Rattle.wy_heap.specs.Nodes.{map_of}
use Rattle.wy_heap.specs.Meaning.{Means}
use Rattle.wy_heap.specs.Slots.{step_of, child, part_at}
use Rattle.wy_heap.specs.Parts.{IsThere}
use Rattle.wy_heap.proofs.MeaningLemmas.{means_unique}
use Rattle.wy_heap.proofs.SlotLemmas.{means_there, child_means}
use Rattle.wy_heap.proofs.heap.Heap.get.Goals as goal

pub again-requires-clause-there : goal.again-requires-clause-there
again-requires-clause-there c =
    let h = c.args.self.now in
    let there = c.requires.there in
    let s = step_of h.shapes c.args.s in
    subst (IsThere h) (sym (c.child-child.ensures ∙ ap (λ (p : Part). part_at (map_of h) p s) c.part.ensures))
    (means_there h (child there.0 s) (part_at (map_of h) c.args.p.now s) (child_means h c.args.p.now there.0 s there.1 there.2))

pub returns-clause-value : goal.returns-clause-value
returns-clause-value c d means =
    let h = c.args.self.now in
    let n = c.again.new.self in
    let there = c.requires.there in
    let s = step_of h.shapes c.args.s in
    let is = c.child-child.ensures ∙ ap (λ (p : Part). part_at (map_of h) p s) c.part.ensures in
    let here : Means (map_of h) (child there.0 s) c.child-child.result =
    subst (Means (map_of h) (child there.0 s)) (sym is) (child_means h c.args.p.now there.0 s there.1 there.2) in
    subst (λ (p : Part). Means (map_of n) (child d s) p) (sym c.of.ensures)
    (subst (λ (e : Datum). Means (map_of n) (child e s) c.in_ok-part.part) (means_unique (map_of h) there.0 d c.args.p.now there.1 means)
    (c.in_ok-part.ensures.value (child there.0 s) here))
