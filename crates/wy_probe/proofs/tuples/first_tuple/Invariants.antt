use Rattle.std.proofs.Common.{◌≡◌, ◌++◌, drop}
use Rattle.wy_probe.specs.Tuples.{zeros}
use Rattle.wy_probe.proofs.tuples.first_tuple.Given as goal

abbrev pub invariant-loop-length : goal.invariant-loop-length
invariant-loop-length l = l.made.items ++ zeros (drop l.length-index l.lengths) ≡ zeros l.lengths
