use Rattle.std.proofs.Common.{◌≡◌, ◌+◌, ◌-◌, length}
use Rattle.wy_assign.specs.Marks as spec
use Rattle.wy_assign.proofs.marks.put_bit.Given as goal

abbrev pub invariant-loop-bits : goal.invariant-loop-bits
invariant-loop-bits l = spec.put_bit l.bits.items l.index l.bit l.others ≡ spec.put_bit l.fn.bits.items l.index l.bit l.others

abbrev pub decreases-loop-bits : goal.decreases-loop-bits
decreases-loop-bits l = (l.index + 1) - length l.bits.items
