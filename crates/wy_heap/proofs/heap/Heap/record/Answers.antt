use Rattle.wy_heap.proofs.BuildLemmas.{record_fits, record_means}
use Rattle.wy_heap.proofs.heap.Heap.record.Goals as goal

pub make-requires-clause-fits : goal.make-requires-clause-fits
make-requires-clause-fits c = record_fits c.args.self.now c.args.items.items c.args.shape c.requires.held.0 c.requires.held.1.counts c.requires.shape

pub returns-in-Ok-clause-value : goal.returns-in-Ok-clause-value
returns-in-Ok-clause-value c list ds found mean =
    record_means c.args.self.now c.make.new.self c.in-Ok.made c.args.items.items c.args.shape list ds c.requires.shape found mean (c.in-Ok.ensures.node ds mean)
