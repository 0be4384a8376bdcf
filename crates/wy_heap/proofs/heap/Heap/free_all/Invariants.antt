use Rattle.std.proofs.Common.{◌≤◌, ◌++◌, ℕ, List, drop}
use Rattle.wy_heap.specs.declared.part.Part.{Part}
use Rattle.wy_heap.specs.Nodes.{Map, map_of, count_at}
use Rattle.wy_heap.specs.Standing.{Counts}
use Rattle.wy_heap.specs.Changing.{SameRest, More, Upholds}
use Rattle.wy_heap.proofs.heap.Heap.free_all.Given as goal

abbrev pub invariant-loop-part : goal.invariant-loop-part
invariant-loop-part l = record {
  rest : SameRest l.fn.self l.self;
  counts : (others : List Part) → Counts l.fn.self (l.parts ++ others) → Counts l.self (drop l.part-index l.parts ++ others);
  upheld : (base : Map) (others : List Part) → Counts l.fn.self (l.parts ++ others) → Upholds base others → More base (map_of l.fn.self) → More base (map_of l.self);
  lower : (k : ℕ) → count_at l.self k ≤ count_at l.fn.self k;
}
