use Rattle.std.proofs.Common.{◌≡◌, [], drop, map}
use Rattle.wy_core.specs.CoreSeen.{seen_param}
use Rattle.wy_flow_spec.specs.environment.Seen.{seen_slots}
use Rattle.wy_flow_spec.specs.typing.Programs as spec
use Rattle.wy_flow.proofs.program.declared_params.Given as goal

abbrev pub invariant-loop-param : goal.invariant-loop-param
invariant-loop-param l = spec.declared_params (seen_slots l.declared) (map seen_param (drop l.param-index l.params)) ≡ spec.declared_params [] (map seen_param l.params)
