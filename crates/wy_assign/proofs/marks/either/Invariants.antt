use Rattle.std.proofs.Common.{◌≡◌}
use Rattle.wy_assign.specs.Marks.{either_bits}
use Rattle.wy_assign.proofs.marks.either.Given as goal

abbrev pub invariant-loop-i : goal.invariant-loop-i
invariant-loop-i l = l.bits.items ≡ either_bits l.first l.second l.i
