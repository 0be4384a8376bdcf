use Rattle.wy_heap.proofs.LookLemmas.{Looked}
use Rattle.wy_heap.proofs.heap.Heap.settle_node.Given as goal

abbrev pub invariant-loop-place : goal.invariant-loop-place
invariant-loop-place l = Looked l.fn.self l.self l.fn.node l.place l.many l.fn.todo.items l.todo.items
