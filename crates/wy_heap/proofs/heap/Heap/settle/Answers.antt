use Rattle.std.proofs.Common.{◌≡◌, ◌<◌, ◌++◌, ◌∷◌, [], ℕ, List, Option, option_to_list, subst, ap, ◌∙◌, arith}
use Rattle.wy_heap.specs.Nodes.{map_of}
use Rattle.wy_heap.specs.Settling.{loads, Spares, SettlesNode}
use Rattle.wy_heap.proofs.SettleLemmas.{settles_trans}
use Rattle.wy_heap.proofs.SettledLemmas.{Settled, settled_first, settled_todo, settled_there, settled_next, settled_less, settled_fails}
use Rattle.wy_heap.proofs.heap.Heap.settle.Goals as goal

pub settle_node-requires-in-Some-clause-there : goal.settle_node-requires-in-Some-clause-there
settle_node-requires-in-Some-clause-there c =
    let rest = c.pop.new.self.items in
    let popped : c.nodes.todo.items ≡ rest ++ c.in-Some.node ∷ [] = c.pop.ensures.items ∙ ap (λ (r : Option ℕ). rest ++ option_to_list r) c.in-Some.is in
    settled_there c.args.self.now c.nodes.self c.args.first c.in-Some.node rest (subst (Settled c.args.self.now c.nodes.self c.args.first) popped c.nodes.invariant)

pub settle_node-requires-in-Some-clause-todo : goal.settle_node-requires-in-Some-clause-todo
settle_node-requires-in-Some-clause-todo c =
    let rest = c.pop.new.self.items in
    let popped : c.nodes.todo.items ≡ rest ++ c.in-Some.node ∷ [] = c.pop.ensures.items ∙ ap (λ (r : Option ℕ). rest ++ option_to_list r) c.in-Some.is in
    settled_todo c.args.self.now c.nodes.self c.args.first c.in-Some.node rest (subst (Settled c.args.self.now c.nodes.self c.args.first) popped c.nodes.invariant)

pub nodes-smaller : goal.nodes-smaller
nodes-smaller c =
    let rest = c.pop.new.self.items in
    let popped : c.nodes.todo.items ≡ rest ++ c.in-Some.node ∷ [] = c.pop.ensures.items ∙ ap (λ (r : Option ℕ). rest ++ option_to_list r) c.in-Some.is in
    let less : loads (map_of c.settle_node-in-Some.new.self) c.settle_node-in-Some.new.todo.items < loads (map_of c.nodes.self) c.nodes.todo.items =
    omega (arith, settled_less c.nodes.self c.settle_node-in-Some.new.self c.in-Some.node rest c.settle_node-in-Some.new.todo.items c.in_ok-settle_node-2.ensures.node, ap (loads (map_of c.nodes.self)) popped) in
    less

pub nodes-preserved : goal.nodes-preserved
nodes-preserved c =
    let rest = c.pop.new.self.items in
    let popped : c.nodes.todo.items ≡ rest ++ c.in-Some.node ∷ [] = c.pop.ensures.items ∙ ap (λ (r : Option ℕ). rest ++ option_to_list r) c.in-Some.is in
    let e = c.in_ok-settle_node-2.ensures in
    settled_next c.args.self.now c.nodes.self c.settle_node-in-Some.new.self c.args.first c.in-Some.node rest c.settle_node-in-Some.new.todo.items
    (subst (Settled c.args.self.now c.nodes.self c.args.first) popped c.nodes.invariant) e.settles e.spares e.node e.kept

pub nodes-init : goal.nodes-init
nodes-init c =
    let e = c.in_ok-settle_node.ensures in
    let none = c.new-todo.ensures.items in
    settled_first c.args.self.now c.settle_node.new.self c.args.first c.settle_node.new.todo.items e.settles
    (subst (Spares c.args.self.now c.settle_node.new.self c.args.first) none e.spares)
    (subst (λ (l : List ℕ). SettlesNode c.args.self.now.cap c.args.self.now c.settle_node.new.self c.args.first l c.settle_node.new.todo.items) none e.node) e.kept c.requires.over

pub returns-in_err-settle_node-2-clause-settles : goal.returns-in_err-settle_node-2-clause-settles
returns-in_err-settle_node-2-clause-settles c = settles_trans c.args.self.now c.nodes.self c.settle_node-in-Some.new.self c.nodes.invariant.settles c.in_err-settle_node-2.ensures.settles

pub returns-in_err-settle_node-2-clause-spares : goal.returns-in_err-settle_node-2-clause-spares
returns-in_err-settle_node-2-clause-spares c =
    let rest = c.pop.new.self.items in
    let popped : c.nodes.todo.items ≡ rest ++ c.in-Some.node ∷ [] = c.pop.ensures.items ∙ ap (λ (r : Option ℕ). rest ++ option_to_list r) c.in-Some.is in
    settled_fails c.args.self.now c.nodes.self c.settle_node-in-Some.new.self c.args.first c.in-Some.node rest
    (subst (Settled c.args.self.now c.nodes.self c.args.first) popped c.nodes.invariant) c.in_err-settle_node-2.ensures.spares

pub returns-clause-spares : goal.returns-clause-spares
returns-clause-spares c base more none = (c.nodes.invariant.spares base more none).0
