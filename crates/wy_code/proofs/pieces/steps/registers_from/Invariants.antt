use Rattle.std.proofs.Common.{◌≡◌, ◌-◌, ◌++◌}
use Rattle.wy_code.specs.pieces.Steps as spec
use Rattle.wy_code.proofs.pieces.steps.registers_from.Given as goal

-- what is left stands behind what is made
abbrev pub invariant-loop : goal.invariant-loop
invariant-loop l = l.registers ++ spec.registers_from l.here (l.count - l.counter) ≡ spec.registers_from l.register l.count
