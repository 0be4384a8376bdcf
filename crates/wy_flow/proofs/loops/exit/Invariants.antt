use Rattle.std.proofs.Common.{◌≡◌, drop}
use Rattle.wy_flow_spec.specs.environment.Seen.{seen_environment}
use Rattle.wy_flow_spec.specs.environment.Variables as variables
use Rattle.wy_flow.specs.States.{seen_environments}
use Rattle.wy_flow_exprs.specs.Seen.{seen_flow}
use Rattle.wy_types.specs.Names.{types_of}
use Rattle.wy_types.specs.Questions.{IsOver}
use Rattle.wy_flow_spec.specs.typing.Loops as spec
use Rattle.wy_flow_spec.specs.typing.Outcomes.{Outcome}
use Rattle.wy_flow.proofs.loops.exit.Given as goal

abbrev pub invariant-loop-other : goal.invariant-loop-other
invariant-loop-other l = record {
  over : IsOver (types_of l.program.names) l.walk.question;
  flow : seen_flow l.walk ≡ seen_flow l.fn.walk;
  steps : (o : Outcome variables.Environment)
      → spec.Exit (types_of l.program.names) l.at (seen_environments (drop l.other-index l.breaks)) (seen_environment l.here) o
      → spec.Exit (types_of l.program.names) l.at (seen_environments l.breaks) (seen_environment l.fn.outside) o;
}
