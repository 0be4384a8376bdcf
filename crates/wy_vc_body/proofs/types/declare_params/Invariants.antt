use Rattle.std.proofs.Common.{◌≡◌, map, drop}
use Rattle.wy_core.specs.CoreSeen.{seen_param}
use Rattle.wy_sem.specs.Evaluation as spec
use Rattle.wy_vc_body.specs.Types.{types_in}
use Rattle.wy_vc_body.proofs.types.declare_params.Given as goal

abbrev pub invariant-loop-param : goal.invariant-loop-param
invariant-loop-param l = spec.param_types (map seen_param (drop l.param-index l.params)) (types_in l.types) ≡ spec.param_types (map seen_param l.params) (types_in l.fn.types)
