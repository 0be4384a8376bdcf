use Rattle.std.proofs.Common.{◌≡◌, ◌++◌, drop}
use Rattle.wy_canon.specs.wy_types.Asks as asks
use Rattle.wy_subtype.proofs.asks.asked_each.Given as goal

abbrev pub invariant-loop-atom : goal.invariant-loop-atom
invariant-loop-atom l = (l.made ++ asks.asked_each l.table l.depth l.part (drop l.atom-index l.negatives)) ≡ asks.asked_each l.table l.depth l.part l.negatives
