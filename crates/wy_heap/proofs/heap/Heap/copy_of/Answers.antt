use Rattle.std.proofs.Common.{subst}
use Rattle.wy_heap.specs.Nodes.{map_of}
use Rattle.wy_heap.specs.Meaning.{Means}
use Rattle.wy_heap.proofs.SettledLemmas.{copy_means}
use Rattle.wy_heap.proofs.heap.Heap.copy_of.Goals as goal

pub returns-in-Ok-clause-value : goal.returns-in-Ok-clause-value
returns-in-Ok-clause-value c d means =
    copy_means c.args.self.now c.copy_node.new.self c.in-Key.key c.in-Ok.made d c.in-Ok.ensures.builds (subst (Means (map_of c.args.self.now) d) c.in-Key.is means)
