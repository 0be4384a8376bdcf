use Rattle.std.proofs.Common.{length}
use Rattle.wy_heap.proofs.heap.Heap.+copied.Given as goal

abbrev pub decreases-copied : goal.decreases-copied
decreases-copied l = length l.path.now
