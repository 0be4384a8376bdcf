use Rattle.std.proofs.Common.{◌≡◌, drop}
use Rattle.wy_canon.specs.wy_types.Asks as asks
use Rattle.wy_subtype.proofs.asks.ways_from.Given as goal

abbrev pub invariant-loop-atom : goal.invariant-loop-atom
invariant-loop-atom l = asks.ways_from l.table l.depth l.ways (drop l.atom-index l.negatives) ≡ asks.ways_from l.table l.depth l.fn.first l.negatives
