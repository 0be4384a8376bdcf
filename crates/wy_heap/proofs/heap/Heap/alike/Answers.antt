use Rattle.std.proofs.Common.{◌≡◌, ◌≢◌, ◌*◌, sym, subst, rules, IfOk}
use Rattle.wy_heap.specs.declared.part.Part.{Part}
use Rattle.wy_heap.specs.declared.part.Part.TheVariants.{Key}
use Rattle.wy_heap.specs.Nodes.{map_of}
use Rattle.wy_heap.specs.Weighing.{weight}
use Rattle.wy_heap.specs.Comparing.{Same, Compares}
use Rattle.wy_heap.proofs.CompareLemmas.{same_leaves, left_scalar, right_scalar}
use Rattle.wy_heap.proofs.heap.Heap.alike.Goals as goal

pub returns-then-eq : goal.returns-then-eq
returns-then-eq c =
    let same : c.args.a ≡ c.args.b = search rules in
    same_leaves (map_of c.args.self.now) c.args.a c.args.b c.args.todo.now.items same c.requires.left

pub returns-in-Key-Key : goal.returns-in-Key-Key
returns-in-Key-Key c =
    let m = map_of c.args.self.now in
    let old = c.args.todo.now.items in
    let new = c.alike_nodes.new.todo.items in
    subst (λ (p : Part). IfOk c.alike_nodes.result (Compares m (Same m p c.args.b) (2 * weight m p) old new)) (sym c.in-Key-Key.is-0)
    (subst (λ (q : Part). IfOk c.alike_nodes.result (Compares m (Same m (Key c.in-Key-Key.j) q) (2 * weight m (Key c.in-Key-Key.j)) old new)) (sym c.in-Key-Key.is-1) c.alike_nodes.ensures)

pub returns-in_default : goal.returns-in_default
returns-in_default c same =
    let differ : c.args.a ≢ c.args.b = search rules in
    right_scalar (map_of c.args.self.now) c.args.a c.args.b c.requires.left c.requires.right differ c.in_default.not-Key-1 same

pub returns-in_default-2 : goal.returns-in_default-2
returns-in_default-2 c same =
    let differ : c.args.a ≢ c.args.b = search rules in
    left_scalar (map_of c.args.self.now) c.args.a c.args.b c.requires.left c.requires.right differ c.in_default.not-Key-0 same
