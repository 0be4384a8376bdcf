use Rattle.std.proofs.Common.{◌≡◌, drop, map}
use Rattle.wy_core.specs.CoreSeen.{seen_step}
use Rattle.wy_assign.specs.Faults.{steps_faults}
use Rattle.wy_assign.proofs.uses.note_steps.Given as goal

-- what is left completes what is found
abbrev pub invariant-loop-step : goal.invariant-loop-step
invariant-loop-step l = steps_faults l.marks (map seen_step (drop l.step-index l.path)) l.found ≡ steps_faults l.marks (map seen_step l.path) l.fn.found
