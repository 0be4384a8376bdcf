use Rattle.std.proofs.Common.{◌≡◌, ◌≤◌, ◌+◌, ◌*◌, ◌^◌, drop}
use Rattle.wy_probe.specs.Tuples.{sum_of}
use Rattle.wy_probe.proofs.tuples.sum_of.Given as goal

abbrev pub invariant-loop-position : goal.invariant-loop-position
invariant-loop-position l = record {
  rest : l.sum + sum_of (drop l.position-index l.tuple) ≡ sum_of l.tuple;
  small : l.sum ≤ l.position-index * 2 ^ 32;
}
