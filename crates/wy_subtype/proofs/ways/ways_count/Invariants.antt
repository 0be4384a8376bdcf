use Rattle.std.proofs.Common.{◌≡◌, ◌*◌, drop}
use Rattle.wy_canon.specs.wy_types.Asks as asks
use Rattle.wy_subtype.specs.Ways.{cap}
use Rattle.wy_subtype.proofs.ways.ways_count.Given as goal

abbrev pub invariant-loop-atom : goal.invariant-loop-atom
invariant-loop-atom l = cap (l.count * asks.ways_count l.fields (drop l.atom-index l.negatives)) ≡ cap (asks.ways_count l.fields l.negatives)
