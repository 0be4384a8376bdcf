use Rattle.std.proofs.Common.{◌≡◌, ◌+◌, ◌-◌, length}
use Rattle.wy_vc_spec.specs.Variables as spec
use Rattle.wy_vc_operations.proofs.slots.put.Given as goal

-- the empty slots that were put behind make no difference
abbrev pub invariant-loop-vars : goal.invariant-loop-vars
invariant-loop-vars l = spec.put l.vars.items l.variable l.term ≡ spec.put l.fn.vars.items l.variable l.term

abbrev pub decreases-loop-vars : goal.decreases-loop-vars
decreases-loop-vars l = (l.index + 1) - length l.vars.items
