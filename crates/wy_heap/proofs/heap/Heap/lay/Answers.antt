use Rattle.std.proofs.Common.{refl}
use Rattle.wy_heap.proofs.WriteLemmas.{swapped}
use Rattle.wy_heap.proofs.heap.Heap.lay.Goals as goal

pub returns-clause-swaps : goal.returns-clause-swaps
returns-clause-swaps c = swapped c.args.self.now c.args.key c.args.place c.args.part c.index_mut-node.result.now _ c.index_mut-node.ensures.value refl refl refl c.requires
