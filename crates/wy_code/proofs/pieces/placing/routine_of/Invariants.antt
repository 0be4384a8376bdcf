use Rattle.std.proofs.Common.{◌≡◌, ◌++◌, max, length, reverse}
use Rattle.wy_code.specs.pieces.Placing as spec
use Rattle.wy_code.proofs.pieces.placing.routine_of.Given as goal

-- what is left stands behind what is made
abbrev pub invariant-loop-step : goal.invariant-loop-step
invariant-loop-step l = record {
  placed : l.body ++ spec.placed l.at (reverse l.backwards.items) ≡ spec.placed 0 l.fn.steps;
  registers : max l.registers (spec.room (spec.placed l.at (reverse l.backwards.items))) ≡ max l.fn.params (spec.room (spec.placed 0 l.fn.steps));
}

abbrev pub decreases-loop-step : goal.decreases-loop-step
decreases-loop-step l = length l.backwards.items
