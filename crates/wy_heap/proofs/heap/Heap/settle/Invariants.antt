use Rattle.wy_heap.specs.Nodes.{map_of}
use Rattle.wy_heap.specs.Settling.{loads}
use Rattle.wy_heap.proofs.SettledLemmas.{Settled}
use Rattle.wy_heap.proofs.heap.Heap.settle.Given as goal

abbrev pub invariant-nodes : goal.invariant-nodes
invariant-nodes l = Settled l.fn.self l.self l.fn.first l.todo.items

abbrev pub decreases-nodes : goal.decreases-nodes
decreases-nodes l = loads (map_of l.self) l.todo.items
