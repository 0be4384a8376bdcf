use Rattle.std.proofs.Common.{◌≤◌, ℕ, take}
use Rattle.wy_heap.specs.Nodes.{count_at, held}
use Rattle.wy_heap.proofs.heap.Heap.are_within.Given as goal

abbrev pub invariant-loop-part : goal.invariant-loop-part
invariant-loop-part l = (k : ℕ) → 1 ≤ held k (take l.part-index l.parts) → count_at l.self k ≤ l.most
