use Rattle.std.proofs.Common.{◌≡◌, drop, map}
use Rattle.wy_core.specs.CoreSeen.{seen_param}
use Rattle.wy_assign.specs.Marks.{with_params}
use Rattle.wy_assign.proofs.program.with_params.Given as goal

-- what is left leads on from what is done
abbrev pub invariant-loop-param : goal.invariant-loop-param
invariant-loop-param l = with_params l.here (map seen_param (drop l.param-index l.params)) ≡ with_params l.fn.marks (map seen_param l.params)
