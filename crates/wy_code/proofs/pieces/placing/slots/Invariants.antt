use Rattle.std.proofs.Common.{◌≡◌, max, drop}
use Rattle.wy_code.specs.pieces.Placing as spec
use Rattle.wy_code.proofs.pieces.placing.slots.Given as goal

abbrev pub invariant-loop-slot : goal.invariant-loop-slot
invariant-loop-slot l = max l.registers (spec.above (spec.slot_registers (drop l.slot-index l.path))) ≡ max l.initial.registers (spec.above (spec.slot_registers l.path))
