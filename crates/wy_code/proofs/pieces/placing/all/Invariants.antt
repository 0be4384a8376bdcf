use Rattle.std.proofs.Common.{◌≡◌, max, drop}
use Rattle.wy_code.specs.pieces.Placing as spec
use Rattle.wy_code.proofs.pieces.placing.all.Given as goal

abbrev pub invariant-loop-register : goal.invariant-loop-register
invariant-loop-register l = max l.registers (spec.above (drop l.register-index l.list)) ≡ max l.fn.registers (spec.above l.list)
