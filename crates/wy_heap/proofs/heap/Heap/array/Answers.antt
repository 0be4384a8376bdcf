use Rattle.wy_heap.proofs.BuildLemmas.{array_fits}
use Rattle.wy_heap.proofs.heap.Heap.array.Goals as goal

pub make-requires-clause-fits : goal.make-requires-clause-fits
make-requires-clause-fits c = array_fits c.args.self.now c.args.items.items c.requires.held.0 c.requires.held.1.counts
