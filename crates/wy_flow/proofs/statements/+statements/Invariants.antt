use Rattle.std.proofs.Common.{drop}
use Rattle.wy_core.specs.CoreSeen.{seen_block}
use Rattle.wy_flow.specs.States.{seen_state}
use Rattle.wy_flow_exprs.specs.Seen.{seen_flow, seen_program, seen_result}
use Rattle.wy_types.specs.Names.{types_of}
use Rattle.wy_types.specs.Questions.{IsOver}
use Rattle.wy_flow_spec.specs.typing.Outcomes.{Outcome}
use Rattle.wy_flow_spec.specs.typing.States as states
use Rattle.wy_flow_spec.specs.typing.Statements as spec
use Rattle.wy_flow.proofs.statements.+statements.Given as goal

abbrev pub invariant-block_typed-loop-stmt : goal.invariant-block_typed-loop-stmt
invariant-block_typed-loop-stmt l = record {
  over : IsOver (types_of l.program.names) l.walk.question;
  steps : (o : Outcome states.State)
      → spec.TypedBlock (seen_program l.program) (seen_result l.output) (seen_block (drop l.stmt-index l.block)) (seen_state (seen_flow l.walk) l.here) o
      → spec.TypedBlock (seen_program l.program) (seen_result l.output) (seen_block l.block) (seen_state (seen_flow l.fn.walk) l.fn.state) o;
}
