use Rattle.std.proofs.Common.{◌<◌, ◌∙◌, sym, ap, length, subst, List, Option}
use Rattle.std.proofs.lemmas.List.{get_or_read}
use Rattle.wy_heap.specs.declared.part.Part.{Part}
use Rattle.wy_heap.specs.declared.part.Part.TheVariants.{Null}
use Rattle.wy_heap.specs.Slots.{part_of}
use Rattle.wy_heap.specs.Nodes.{Body, parts_in}
use Rattle.wy_heap.proofs.SlotLemmas.{body-node}
use Rattle.wy_heap.proofs.heap.Heap.part_in.Goals as goal

pub returns : goal.returns
returns c =
    let h = c.args.self.now in
    let n = c.index.result.now in
    let there = c.requires in
    let within : c.args.place < length n.parts.items =
    subst (λ (ps : List Part). c.args.place < length ps) (ap parts_in (sym there.was ∙ body-node h c.args.key n c.index.ensures)) there.within in
    get_or_read n.parts.items c.args.place c.index-2.result.now within c.index-2.ensures Null
    ∙ sym (ap (λ (o : Option Body). part_of o c.args.place) (body-node h c.args.key n c.index.ensures))
