use Rattle.wy_probe.proofs.TupleLemmas.{in_order}
use Rattle.wy_probe.proofs.laws.tuples_come_in_order.Goals as goal

pub returns : goal.returns
returns c = record { order = in_order }
