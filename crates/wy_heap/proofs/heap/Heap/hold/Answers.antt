use Rattle.std.proofs.Common.{refl}
use Rattle.wy_heap.proofs.ChangeLemmas.{map_of-recounted}
use Rattle.wy_heap.proofs.heap.Heap.hold.Goals as goal

pub returns-in-Key-clause-nodes : goal.returns-in-Key-clause-nodes
returns-in-Key-clause-nodes c = map_of-recounted c.args.self.now c.in-Key.key c.index_mut-node.result.now _ c.index_mut-node.ensures.value refl
