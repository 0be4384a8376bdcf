use Rattle.std.proofs.Common.{◌≡◌, IfOk, subst, refl}
use Rattle.wy_live.specs.declared.walk.Walk.{Walk}
use Rattle.wy_live.proofs.WalkLemmas.{if_walk}
use Rattle.wy_live.proofs.statements.+walk.Goals as goal

pub walk_stmt-returns-in_ok-first-in-If : goal.walk_stmt-returns-in_ok-first-in-If
walk_stmt-returns-in_ok-first-in-If t c = record {
  value = subst (λ (z : Walk). IfOk c.end_if.result (λ k. k ≡ z))
      (if_walk c.args.stmt.now c.args.ends.now c.args.walk c.in-If.test c.in-If.test c.in-If.first c.in-If.second c.in-If.is refl
      c.in_ok-again-in-If.again c.in_ok-again-in-If.ensures.value
      c.as_slice-in-If.result.now c.as_slice-in-If.ensures c.in_ok-second-in-If.second c.in_ok-second-in-If.ensures.value
      c.begin_first-live.result.0 c.begin_first-live.ensures.live c.begin_first-live.result.1 c.begin_first-live.ensures.begun
      c.as_slice-in-If-2.result.now c.as_slice-in-If-2.ensures c.in_ok-first-in-If.first c.in_ok-first-in-If.ensures.value)
      c.end_if.ensures.value;
}
