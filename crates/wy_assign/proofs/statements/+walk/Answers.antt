use Rattle.std.proofs.Common.{◌≡◌, IfOk, subst, refl}
use Rattle.wy_assign.specs.declared.flow.Walk.{Walk}
use Rattle.wy_assign.proofs.WalkLemmas.{if_walk}
use Rattle.wy_assign.proofs.statements.+walk.Goals as goal

pub walk_stmt-returns-in_ok-second-in-If : goal.walk_stmt-returns-in_ok-second-in-If
walk_stmt-returns-in_ok-second-in-If t c = record {
  value = subst (λ (z : Walk). IfOk c.end_if.result (λ k. k ≡ z))
      (if_walk c.args.stmt.now c.args.walk c.in-If.test c.in-If.test c.in-If.first c.in-If.second c.in-If.is refl
      c.in_ok-before-in-If.before c.in_ok-before-in-If.ensures.value.0 c.in_ok-before-in-If.walk c.in_ok-before-in-If.ensures.value.1
      c.as_slice-in-If.result.now c.as_slice-in-If.ensures c.in_ok-first-in-If.first c.in_ok-first-in-If.ensures.value
      c.begin_else-here.result.0 c.begin_else-here.ensures.ended c.begin_else-here.result.1 c.begin_else-here.ensures.begun
      c.as_slice-in-If-2.result.now c.as_slice-in-If-2.ensures c.in_ok-second-in-If.second c.in_ok-second-in-If.ensures.value)
      c.end_if.ensures.value;
}
