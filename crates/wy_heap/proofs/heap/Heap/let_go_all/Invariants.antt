use Rattle.std.proofs.Common.{◌≡◌, ◌≤◌, ◌++◌, ℕ, List, drop}
use Rattle.wy_heap.specs.declared.part.Part.{Part}
use Rattle.wy_heap.specs.Nodes.{map_of, count_at}
use Rattle.wy_heap.specs.Freeing.{Frees}
use Rattle.wy_heap.specs.Changing.{SameRest}
use Rattle.wy_heap.proofs.heap.Heap.let_go_all.Given as goal

abbrev pub invariant-loop-part : goal.invariant-loop-part
invariant-loop-part l = record {
  rest : SameRest l.fn.self l.self;
  nodes : map_of l.self ≡ map_of l.fn.self;
  lower : (k : ℕ) → count_at l.self k ≤ count_at l.fn.self k;
  frees : (places : List Part) → Frees l.fn.self l.fn.first (l.parts ++ places) → Frees l.self l.dead (drop l.part-index l.parts ++ places);
}
