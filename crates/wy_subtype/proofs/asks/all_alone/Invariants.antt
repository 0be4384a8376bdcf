use Rattle.std.proofs.Common.{◌≡◌, ◌++◌, drop}
use Rattle.wy_canon.specs.wy_types.Asks as asks
use Rattle.wy_subtype.proofs.asks.all_alone.Given as goal

abbrev pub invariant-loop-way : goal.invariant-loop-way
invariant-loop-way l = (l.made ++ asks.all_alone (drop l.way-index l.ways)) ≡ asks.all_alone l.ways
