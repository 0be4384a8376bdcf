use Rattle.std.proofs.Common.{◌≡◌, ◌+◌, length, drop, map}
use Rattle.wy_core.specs.CoreSeen.{seen_step, seen_ty}
use Rattle.wy_flow_spec.specs.environment.Seen.{seen_environment}
use Rattle.wy_flow_exprs.specs.Seen.{seen_all, seen_flow, seen_program}
use Rattle.wy_types.specs.Names.{types_of}
use Rattle.wy_types.specs.Questions.{IsOver}
use Rattle.wy_flow_spec.specs.typing.Contexts.{FoundAll}
use Rattle.wy_flow_spec.specs.typing.Outcomes.{Outcome}
use Rattle.wy_flow_spec.specs.typing.Paths as spec
use Rattle.wy_flow.proofs.paths.path_types.Given as goal

abbrev pub invariant-loop-step : goal.invariant-loop-step
invariant-loop-step l = record {
  count : length l.made ≡ l.step-index + 1;
  over : IsOver (types_of l.program.names) l.walk.question;
  steps : (o : Outcome FoundAll)
      → spec.PathTypes (seen_program l.program) (seen_environment l.env) (map seen_step (drop l.step-index l.path)) (seen_ty l.here) (seen_all (seen_flow l.walk) l.made) o
      → spec.TypesAlong (seen_program l.program) (seen_environment l.env) (map seen_step l.path) (seen_flow l.fn.walk) (seen_ty l.fn.ty) o;
}
