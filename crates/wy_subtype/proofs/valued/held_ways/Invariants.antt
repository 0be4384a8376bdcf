use Rattle.std.proofs.Common.{◌≡◌, ◌++◌, drop}
use Rattle.wy_subtype.specs.Valued as valued
use Rattle.wy_subtype.proofs.valued.held_ways.Given as goal

abbrev pub invariant-loop-way : goal.invariant-loop-way
invariant-loop-way l = (l.made ++ valued.held_ways l.held (drop l.way-index l.ways) l.rest) ≡ valued.held_ways l.held l.ways l.asks
