use Rattle.std.proofs.Common.{◌≤◌, ◌∷◌, ℕ, List}
use Rattle.wy_heap.specs.declared.part.Part.{Part}
use Rattle.wy_heap.specs.Nodes.{map_of, count_at, size}
use Rattle.wy_heap.specs.Standing.{Counts}
use Rattle.wy_heap.specs.Freeing.{Frees}
use Rattle.wy_heap.specs.Changing.{SameRest, Lasts, Upheld}
use Rattle.wy_heap.proofs.heap.Heap.free_hold.Given as goal

abbrev pub invariant-loop-dead : goal.invariant-loop-dead
invariant-loop-dead l = record {
  rest : SameRest l.fn.self l.self;
  frees : (places : List Part) → Counts l.fn.self (l.fn.part ∷ places) → Frees l.self l.dead places;
  lasts : Lasts (map_of l.fn.self) (map_of l.self);
  upheld : Upheld l.fn.self (map_of l.self) l.fn.part;
  lower : (k : ℕ) → count_at l.self k ≤ count_at l.fn.self k;
}

abbrev pub decreases-loop-dead : goal.decreases-loop-dead
decreases-loop-dead l = size (map_of l.self)
