use Rattle.std.proofs.Common.{◌≡◌, ◌≤◌, ◌+◌, ◌*◌, ◌^◌, drop}
use Rattle.wy_probe.specs.Tuples.{greatest_sum}
use Rattle.wy_probe.proofs.tuples.greatest_sum.Given as goal

abbrev pub invariant-loop-length : goal.invariant-loop-length
invariant-loop-length l = record {
  rest : l.sum + greatest_sum (drop l.length-index l.lengths) ≡ greatest_sum l.lengths;
  small : l.sum ≤ l.length-index * 2 ^ 32;
}
