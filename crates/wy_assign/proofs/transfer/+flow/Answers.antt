use Rattle.std.proofs.Common.{◌≡◌, IfOk, subst}
use Rattle.wy_assign.specs.Flows.{rejoined}
use Rattle.wy_assign.specs.declared.flow.Flow.{Flow}
use Rattle.wy_assign.proofs.WalkLemmas.{if_flow}
use Rattle.wy_assign.proofs.transfer.+flow.Goals as goal

pub flow_stmt-returns-in_ok-second-in-If : goal.flow_stmt-returns-in_ok-second-in-If
flow_stmt-returns-in_ok-second-in-If t c = record {
  value = subst (λ (z : Flow). IfOk c.rejoined.result (λ k. k ≡ z))
      (if_flow c.args.stmt.now c.args.flow c.in-If.field-0 c.in-If.first c.in-If.second c.in-If.is
      c.in_ok-before-in-If.before c.in_ok-before-in-If.ensures.value
      c.as_slice-in-If.result.now c.as_slice-in-If.ensures c.in_ok-first-in-If.first c.in_ok-first-in-If.ensures.value
      c.otherwise-here.result.0 c.otherwise-here.ensures.ended c.otherwise-here.result.1 c.otherwise-here.ensures.begun
      c.as_slice-in-If-2.result.now c.as_slice-in-If-2.ensures c.in_ok-second-in-If.second c.in_ok-second-in-If.ensures.value)
      c.rejoined.ensures.value;
}
