use Rattle.std.proofs.Common.{◌≡◌, drop}
use Rattle.wy_assign.specs.Faults.{is_in}
use Rattle.wy_assign.proofs.uses.is_in.Given as goal

-- it is none of those passed
abbrev pub invariant-loop-other : goal.invariant-loop-other
invariant-loop-other l = is_in (drop l.other-index l.bound) l.variable ≡ is_in l.bound l.variable
