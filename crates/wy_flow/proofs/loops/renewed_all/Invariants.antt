use Rattle.std.proofs.Common.{◌≡◌, drop}
use Rattle.wy_flow_spec.specs.environment.Seen.{seen_environment, seen_slots}
use Rattle.wy_flow_spec.specs.environment.Variables as variables
use Rattle.wy_flow_exprs.specs.Seen.{seen_flow}
use Rattle.wy_types.specs.Names.{types_of}
use Rattle.wy_types.specs.Questions.{IsOver}
use Rattle.wy_flow_spec.specs.typing.Loops as spec
use Rattle.wy_flow_spec.specs.typing.Outcomes.{Outcome}
use Rattle.wy_flow.proofs.loops.renewed_all.Given as goal

abbrev pub invariant-loop-variable : goal.invariant-loop-variable
invariant-loop-variable l = record {
  over : IsOver (types_of l.program.names) l.walk.question;
  flow : seen_flow l.walk ≡ seen_flow l.fn.walk;
  steps : (o : Outcome variables.Environment)
      → spec.RenewedAll (types_of l.program.names) l.at (seen_slots l.state.declared) (drop l.variable-index l.variables) (seen_environment l.here) o
      → spec.RenewedAll (types_of l.program.names) l.at (seen_slots l.state.declared) l.variables (seen_environment l.fn.env) o;
}
