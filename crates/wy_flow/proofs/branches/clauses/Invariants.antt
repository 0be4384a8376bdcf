use Rattle.std.proofs.Common.{List, drop}
use Rattle.wy_core.specs.CoreSeen.{seen_exprs}
use Rattle.wy_core.specs.Types.{Ty}
use Rattle.wy_flow_spec.specs.environment.Seen.{seen_environment}
use Rattle.wy_flow_exprs.specs.Seen.{seen_flow, seen_program}
use Rattle.wy_types.specs.Names.{types_of}
use Rattle.wy_types.specs.Questions.{IsOver}
use Rattle.wy_flow_spec.specs.typing.Loops as spec
use Rattle.wy_flow_spec.specs.typing.Outcomes.{Outcome}
use Rattle.wy_flow.proofs.branches.clauses.Given as goal

abbrev pub invariant-loop-clause : goal.invariant-loop-clause
invariant-loop-clause l = record {
  over : IsOver (types_of l.program.names) l.walk.question;
  steps : (o : Outcome (List Ty))
      → spec.ClausesTyped (seen_program l.program) (seen_environment l.env) (seen_exprs (drop l.clause-index l.list)) (seen_flow l.walk) o
      → spec.ClausesTyped (seen_program l.program) (seen_environment l.env) (seen_exprs l.list) (seen_flow l.fn.walk) o;
}
