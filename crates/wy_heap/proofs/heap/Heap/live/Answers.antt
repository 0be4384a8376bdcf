use Rattle.std.proofs.Common.{◌∙◌}
use Rattle.wy_heap.proofs.ChangeLemmas.{size-map_of}
use Rattle.wy_heap.proofs.heap.Heap.live.Goals as goal

pub returns : goal.returns
returns c = record { value = c.len.ensures ∙ size-map_of c.args.self.now }
