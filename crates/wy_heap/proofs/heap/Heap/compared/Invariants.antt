use Rattle.wy_heap.specs.Nodes.{map_of}
use Rattle.wy_heap.specs.Comparing.{Same, AreSame, ArePairs, pair_works}
use Rattle.wy_heap.proofs.heap.Heap.compared.Given as goal

abbrev pub invariant-pairs : goal.invariant-pairs
invariant-pairs l = record {
  back : AreSame (map_of l.self) l.todo.items → Same (map_of l.self) l.fn.a l.fn.b;
  forth : Same (map_of l.self) l.fn.a l.fn.b → AreSame (map_of l.self) l.todo.items;
  pairs : ArePairs (map_of l.self) l.todo.items;
}

abbrev pub decreases-pairs : goal.decreases-pairs
decreases-pairs l = pair_works (map_of l.self) l.todo.items
