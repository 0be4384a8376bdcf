use Rattle.wy_heap.proofs.LawLemmas.{none_left}
use Rattle.wy_heap.proofs.laws.nothing_left.Goals as goal

pub returns : goal.returns
returns c = none_left
