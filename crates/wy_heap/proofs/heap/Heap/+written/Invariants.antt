use Rattle.std.proofs.Common.{length}
use Rattle.wy_heap.proofs.heap.Heap.+written.Given as goal

abbrev pub decreases-written : goal.decreases-written
decreases-written l = length l.path.now
