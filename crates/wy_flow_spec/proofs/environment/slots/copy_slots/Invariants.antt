use Rattle.std.proofs.Common.{◌≡◌, ◌++◌, drop}
use Rattle.wy_flow_spec.proofs.environment.slots.copy_slots.Given as goal

abbrev pub invariant-loop-slot : goal.invariant-loop-slot
invariant-loop-slot l = l.made ++ drop l.slot-index l.slots ≡ l.slots
