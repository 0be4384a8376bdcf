use Rattle.wy_names.proofs.LeastLemmas.{least_left}
use Rattle.wy_names.proofs.laws.the_least_fault_is_left.Goals as goal

pub returns : goal.returns
returns c = least_left
