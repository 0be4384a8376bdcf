use Rattle.std.proofs.Common.{◌≡◌, ◌≢◌, ◌*◌, List, length, sym, subst, arith, rules}
use Rattle.wy_heap.specs.declared.part.Part.TheVariants.{Key}
use Rattle.wy_heap.specs.Nodes.{map_of}
use Rattle.wy_heap.specs.Weighing.{weight}
use Rattle.wy_heap.specs.Comparing.{Pair, Same, Leaves}
use Rattle.wy_heap.proofs.SlotLemmas.{means_there}
use Rattle.wy_heap.proofs.CompareLemmas.{other_shapes, other_lengths, nodes_leave}
use Rattle.wy_heap.proofs.heap.Heap.alike_nodes.Goals as goal

pub index-left-requires : goal.index-left-requires
index-left-requires c = means_there c.args.self.now c.requires.left.0 (Key c.args.j) c.requires.left.1

pub index-right-requires : goal.index-right-requires
index-right-requires c = means_there c.args.self.now c.requires.right.0 (Key c.args.k) c.requires.right.1

pub returns-then-ne : goal.returns-then-ne
returns-then-ne c same =
    let x = c.index-left.result.now in
    let y = c.index-right.result.now in
    let differ : x.shape ≢ y.shape = search rules in
    other_shapes c.args.self.now c.args.j c.args.k x y c.index-left.ensures c.index-right.ensures c.requires.left c.requires.right c.requires.table differ same

pub returns-then-len : goal.returns-then-len
returns-then-len c same =
    let x = c.index-left.result.now in
    let y = c.index-right.result.now in
    other_lengths c.args.self.now c.args.j c.args.k x y c.index-left.ensures c.index-right.ensures c.requires.left c.requires.right
    (λ e. c.if-len.true (omega (arith, e, c.len.ensures, c.len-2.ensures, x.parts.ok, y.parts.ok))) same

pub returns : goal.returns
returns c =
    let x = c.index-left.result.now in
    let y = c.index-right.result.now in
    let shapes : x.shape ≡ y.shape = search rules in
    let long : length x.parts.items ≡ length y.parts.items = omega (arith, c.if-len.false, c.len.ensures, c.len-2.ensures, x.parts.ok, y.parts.ok) in
    let m = map_of c.args.self.now in
    subst (λ (l : List Pair). Leaves m (Same m (Key c.args.j) (Key c.args.k)) (2 * weight m (Key c.args.j)) c.args.todo.now.items l) (sym c.in_ok-push.ensures.items)
    (nodes_leave c.args.self.now c.args.j c.args.k x y c.index-left.ensures c.index-right.ensures c.requires.left c.requires.right shapes long c.args.todo.now.items)
