use Rattle.std.proofs.Common.{◌≡◌, ◌≤◌, ◌++◌, drop}
use Rattle.wy_probe.specs.Tuples.{greatest_sum, least}
use Rattle.wy_probe.proofs.tuples.with_least.Given as goal

abbrev pub invariant-loop-length : goal.invariant-loop-length
invariant-loop-length l = record {
  rest : l.made.items ++ least (drop l.length-index l.lengths) l.left ≡ l.initial.made.items ++ least l.lengths l.initial.left;
  room : l.room ≡ greatest_sum (drop l.length-index l.lengths);
  within : l.left ≤ l.room;
}
