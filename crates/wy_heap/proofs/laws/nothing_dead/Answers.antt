use Rattle.wy_heap.proofs.LawLemmas.{nodes_are_reached}
use Rattle.wy_heap.proofs.laws.nothing_dead.Goals as goal

pub returns : goal.returns
returns c = nodes_are_reached
