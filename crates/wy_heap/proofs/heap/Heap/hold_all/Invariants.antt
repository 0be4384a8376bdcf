use Rattle.std.proofs.Common.{◌≡◌, ◌+◌, ℕ, take}
use Rattle.slab.specs.Slab.{HasRoomFor}
use Rattle.wy_heap.specs.Nodes.{map_of, count_at, held}
use Rattle.wy_heap.specs.Changing.{SameRest}
use Rattle.wy_heap.proofs.heap.Heap.hold_all.Given as goal

abbrev pub invariant-loop-part : goal.invariant-loop-part
invariant-loop-part l = record {
  rest : SameRest l.fn.self l.self;
  nodes : map_of l.self ≡ map_of l.fn.self;
  counts : (k : ℕ) → count_at l.self k ≡ count_at l.fn.self k + held k (take l.part-index l.parts);
  room : (n : ℕ) → HasRoomFor l.fn.self.nodes n → HasRoomFor l.self.nodes n;
}
