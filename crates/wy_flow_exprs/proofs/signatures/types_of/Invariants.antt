use Rattle.std.proofs.Common.{◌≡◌, ◌++◌, map, drop}
use Rattle.wy_core.specs.CoreSeen.{seen_param}
use Rattle.wy_flow_exprs.specs.Seen.{seen_types}
use Rattle.wy_flow_spec.specs.typing.Programs as spec
use Rattle.wy_flow_exprs.proofs.signatures.types_of.Given as goal

abbrev pub invariant-loop-param : goal.invariant-loop-param
invariant-loop-param l = seen_types l.made ++ spec.types_of (map seen_param (drop l.param-index l.params)) ≡ spec.types_of (map seen_param l.params)
