use Rattle.std.proofs.Common.{◌≡◌, take}
use Rattle.wy_heap.proofs.heap.Heap.words.Given as goal

abbrev pub invariant-loop-item : goal.invariant-loop-item
invariant-loop-item l = l.words.items ≡ take l.item-index l.items
