use Rattle.std.proofs.Common.{length, ap, sym, subst, arith}
use Rattle.wy_heap.specs.declared.part.Part.TheVariants.{Key}
use Rattle.wy_heap.specs.Nodes.{map_of, parts_in}
use Rattle.wy_heap.specs.Meaning.{IsMeant}
use Rattle.wy_heap.proofs.SlotLemmas.{means_there, body-node}
use Rattle.wy_heap.proofs.CompareLemmas.{past_leaves, next_compares, pair_slot, pair_parts_meant}
use Rattle.wy_heap.proofs.heap.Heap.next_alike.Goals as goal

pub index-requires : goal.index-requires
index-requires c = means_there c.args.self.now c.requires.pair.left.0 (Key c.args.left) c.requires.pair.left.1

pub returns-then-place-len : goal.returns-then-place-len
returns-then-place-len c =
    let h = c.args.self.now in
    let n = c.index.result.now in
    past_leaves (map_of h) c.args.left c.args.right c.args.place c.args.todo.now.items c.requires.pair
    (omega (arith, ap length (ap parts_in (body-node h c.args.left n c.index.ensures)), c.if-place-len.true, c.len.ensures, n.parts.ok))

pub part_in-second-requires : goal.part_in-second-requires
part_in-second-requires c =
    let h = c.args.self.now in
    let n = c.index.result.now in
    pair_slot h c.args.right c.args.place c.requires.pair.right
    (omega (arith, c.requires.pair.long, ap length (ap parts_in (body-node h c.args.left n c.index.ensures)), c.if-place-len.false, c.len.ensures, n.parts.ok))

pub part_in-first-requires : goal.part_in-first-requires
part_in-first-requires c =
    let h = c.args.self.now in
    let n = c.index.result.now in
    pair_slot h c.args.left c.args.place c.requires.pair.left
    (omega (arith, ap length (ap parts_in (body-node h c.args.left n c.index.ensures)), c.if-place-len.false, c.len.ensures, n.parts.ok))

pub alike-requires-clause-left : goal.alike-requires-clause-left
alike-requires-clause-left c =
    let h = c.args.self.now in
    let n = c.index.result.now in
    subst (IsMeant (map_of h)) (sym c.part_in-first.ensures)
    (pair_parts_meant h c.args.left c.args.place c.requires.pair.left
    (omega (arith, ap length (ap parts_in (body-node h c.args.left n c.index.ensures)), c.if-place-len.false, c.len.ensures, n.parts.ok)))

pub alike-requires-clause-right : goal.alike-requires-clause-right
alike-requires-clause-right c =
    let h = c.args.self.now in
    let n = c.index.result.now in
    subst (IsMeant (map_of h)) (sym c.part_in-second.ensures)
    (pair_parts_meant h c.args.right c.args.place c.requires.pair.right
    (omega (arith, c.requires.pair.long, ap length (ap parts_in (body-node h c.args.left n c.index.ensures)), c.if-place-len.false, c.len.ensures, n.parts.ok)))

pub returns : goal.returns
returns c =
    let h = c.args.self.now in
    let n = c.index.result.now in
    next_compares (map_of h) c.args.left c.args.right c.args.place c.part_in-first.result c.part_in-second.result c.args.todo.now.items c.push.new.self.items c.alike.new.todo.items c.in_ok-alike.alike c.requires.pair
    (omega (arith, ap length (ap parts_in (body-node h c.args.left n c.index.ensures)), c.if-place-len.false, c.len.ensures, n.parts.ok))
    c.part_in-first.ensures c.part_in-second.ensures c.in_ok-push.ensures.items c.in_ok-alike.ensures
