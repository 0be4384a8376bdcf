use Rattle.std.proofs.Common.{◌≡◌, replicate}
use Rattle.wy_heap.proofs.heap.Heap.times.Given as goal

abbrev pub invariant-loop-i : goal.invariant-loop-i
invariant-loop-i l = l.words.items ≡ replicate l.i l.part
