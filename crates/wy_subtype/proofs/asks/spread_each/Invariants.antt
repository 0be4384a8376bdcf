use Rattle.std.proofs.Common.{◌≡◌, ◌++◌, drop}
use Rattle.wy_canon.specs.wy_types.Asks as asks
use Rattle.wy_subtype.proofs.asks.spread_each.Given as goal

abbrev pub invariant-loop-way : goal.invariant-loop-way
invariant-loop-way l = (l.made ++ asks.spread_each l.table l.depth (drop l.way-index l.ways) l.atom) ≡ asks.spread_each l.table l.depth l.ways l.atom
