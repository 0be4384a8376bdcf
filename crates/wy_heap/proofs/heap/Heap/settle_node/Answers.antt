use Rattle.std.proofs.Common.{length, ap, sym, ◌∙◌, rules}
use Rattle.wy_heap.specs.Nodes.{parts_in}
use Rattle.wy_heap.proofs.ChangeLemmas.{contains_from_at}
use Rattle.wy_heap.proofs.SlotLemmas.{body-node}
use Rattle.wy_heap.proofs.SettleLemmas.{settles_trans}
use Rattle.wy_heap.proofs.LookLemmas.{looked_first, looked_next, looked_all}
use Rattle.wy_heap.proofs.heap.Heap.settle_node.Goals as goal

pub index-requires : goal.index-requires
index-requires c = contains_from_at c.args.self.now c.args.node c.requires.there

pub loop-place-init : goal.loop-place-init
loop-place-init c =
    let h = c.args.self.now in
    let n = c.index.result.now in
    looked_first h c.args.node c.len-many.result c.args.todo.now.items c.requires.there
    (ap length (ap parts_in (body-node h c.args.node n c.index.ensures)) ∙ sym n.parts.ok.0 ∙ sym c.len-many.ensures) c.requires.todo

pub loop-place-preserved : goal.loop-place-preserved
loop-place-preserved c =
    let h = c.args.self.now in
    looked_next h c.loop-place.self c.settle_place.new.self c.args.node c.loop-place.place c.len-many.result c.args.todo.now.items c.loop-place.todo.items c.settle_place.new.todo.items
    c.loop-place.invariant (search rules) c.in_ok-settle_place.ensures.place c.in_ok-settle_place.ensures.kept c.requires.some c.requires.held.0 c.requires.held.1

pub returns-in_err-settle_place-clause-settles : goal.returns-in_err-settle_place-clause-settles
returns-in_err-settle_place-clause-settles c =
    settles_trans c.args.self.now c.loop-place.self c.settle_place.new.self c.loop-place.invariant.settles c.in_err-settle_place.ensures.settles

pub returns-clause-node : goal.returns-clause-node
returns-clause-node c =
    let h = c.args.self.now in
    looked_all h c.loop-place.self c.args.node c.loop-place.place c.len-many.result c.args.todo.now.items c.loop-place.todo.items c.loop-place.invariant (search rules)
    (c.requires.held.1.meant c.args.node c.requires.there)
