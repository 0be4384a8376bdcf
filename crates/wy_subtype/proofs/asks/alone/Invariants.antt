use Rattle.std.proofs.Common.{◌≡◌, ◌++◌, drop}
use Rattle.wy_canon.specs.wy_types.Asks as asks
use Rattle.wy_subtype.proofs.asks.alone.Given as goal

abbrev pub invariant-loop-field : goal.invariant-loop-field
invariant-loop-field l = (l.made ++ asks.alone (drop l.field-index l.way)) ≡ asks.alone l.way
