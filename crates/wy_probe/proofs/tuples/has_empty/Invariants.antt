use Rattle.std.proofs.Common.{◌≡◌, drop}
use Rattle.wy_probe.specs.Tuples.{has_empty}
use Rattle.wy_probe.proofs.tuples.has_empty.Given as goal

abbrev pub invariant-loop-length : goal.invariant-loop-length
invariant-loop-length l = has_empty (drop l.length-index l.lengths) ≡ has_empty l.lengths
