use Rattle.std.proofs.Common.{◌≡◌, ◌+◌, ◌-◌, length}
use Rattle.wy_vc_exprs.specs.wy_vc_spec.Spots as spec
use Rattle.wy_vc_body.proofs.here.mark.Given as goal

-- the variables that were put behind make no difference
abbrev pub invariant-loop-set : goal.invariant-loop-set
invariant-loop-set l = spec.mark l.set.items l.variable l.has ≡ spec.mark l.fn.set.items l.variable l.has

abbrev pub decreases-loop-set : goal.decreases-loop-set
decreases-loop-set l = (l.index + 1) - length l.set.items
