use Rattle.std.proofs.Common.{◌≡◌, ◌+◌, ◌<◌, arith}
use Rattle.wy_graph.specs.cycles.Ancestors.{last_node}
use Rattle.wy_graph.proofs.cycles_lemmas.AncestorLemmas.{CountsEach, last_more, counted_cycles, counted_rise}
use Rattle.wy_graph.proofs.cycles.ancestors.labels_by_ancestors.Goals as goal

pub returns-clause-cycles : goal.returns-clause-cycles
returns-clause-cycles c =
    let arrows = c.args.arrows.now in
    let last = c.last_node-last.result in
    let is : c.loop-node.node ≡ last = omega (arith, c.loop-node-test.false, c.loop-node.auto.node-end) in
    let each : CountsEach arrows (last + 1) c.push-2.new.self =
    last_more arrows last c.loop-node.node c.loop-node.labels c.in_ok-label-2.label c.push-2.new.self is c.loop-node.invariant c.in_ok-label-2.ensures.value c.in_ok-push-2.ensures.ok
    in
    let ends : last_node arrows 0 < last + 1 = omega (arith, c.last_node-last.ensures.value) in
    counted_cycles arrows (last + 1) c.push-2.new.self ends each

pub returns-clause-rising : goal.returns-clause-rising
returns-clause-rising c =
    let arrows = c.args.arrows.now in
    let last = c.last_node-last.result in
    let is : c.loop-node.node ≡ last = omega (arith, c.loop-node-test.false, c.loop-node.auto.node-end) in
    let each : CountsEach arrows (last + 1) c.push-2.new.self =
    last_more arrows last c.loop-node.node c.loop-node.labels c.in_ok-label-2.label c.push-2.new.self is c.loop-node.invariant c.in_ok-label-2.ensures.value c.in_ok-push-2.ensures.ok
    in
    let ends : last_node arrows 0 < last + 1 = omega (arith, c.last_node-last.ensures.value) in
    counted_rise arrows (last + 1) c.push-2.new.self ends each
