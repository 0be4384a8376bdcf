use Rattle.std.proofs.Common.{◌≡◌, ◌++◌, drop}
use Rattle.wy_canon.specs.wy_types.Asks as asks
use Rattle.wy_subtype.proofs.asks.asked.Given as goal

abbrev pub invariant-loop-signed : goal.invariant-loop-signed
invariant-loop-signed l = (l.made ++ asks.asked l.table l.depth l.part (drop l.signed-index l.other)) ≡ asks.asked l.table l.depth l.part l.other
