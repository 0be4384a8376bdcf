use Rattle.std.proofs.Common.{◌≡◌, drop, map}
use Rattle.wy_core.specs.CoreSeen.{seen_param}
use Rattle.wy_flow_spec.specs.environment.Seen.{seen_environment}
use Rattle.wy_flow_spec.specs.environment.Variables as variables
use Rattle.wy_flow_exprs.specs.Seen.{seen_flow}
use Rattle.wy_types.specs.Names.{types_of}
use Rattle.wy_types.specs.Questions.{IsOver}
use Rattle.wy_flow_spec.specs.typing.Outcomes.{Outcome}
use Rattle.wy_flow_spec.specs.typing.Programs as spec
use Rattle.wy_flow.proofs.program.with_params.Given as goal

abbrev pub invariant-loop-param : goal.invariant-loop-param
invariant-loop-param l = record {
  over : IsOver (types_of l.program.names) l.walk.question;
  flow : seen_flow l.walk ≡ seen_flow l.fn.walk;
  steps : (o : Outcome variables.Environment)
      → spec.WithParams (types_of l.program.names) (map seen_param (drop l.param-index l.params)) (seen_environment l.here) o
      → spec.WithParams (types_of l.program.names) (map seen_param l.params) variables.nothing_known o;
}
