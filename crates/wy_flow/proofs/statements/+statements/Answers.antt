use Rattle.std.proofs.Common.{map, rules, refl, sym, ap, arith}
use Rattle.wy_core.specs.CoreSeen.{seen_block, seen_expr, seen_exprs, seen_step}
use Rattle.wy_core.specs.CoreTree as tree
use Rattle.wy_flow_spec.proofs.environment_lemmas.SharedLemmas.{seen_assert, seen_assign, seen_break, seen_call, seen_continue, seen_declare, seen_fail, seen_if, seen_return, seen_skip, seen_while}
use Rattle.wy_flow.specs.States.{seen_state}
use Rattle.wy_flow_exprs.specs.Seen.{seen_flow, seen_program, seen_result}
use Rattle.wy_lemmas.proofs.Lists.{next_of as item_and_rest}
use Rattle.wy_flow_spec.specs.typing.Outcomes.{Gives, gave}
use Rattle.wy_flow_spec.specs.typing.States as states
use Rattle.wy_flow_spec.specs.typing.Statements as spec
use Rattle.wy_flow_exprs.proofs.checks_lemmas.StepLemmas.{next, first_refused}
use Rattle.wy_flow.proofs.WalkLemmas.{moved, shifted, onto, end_if_by, end_loop_by}
use Rattle.wy_core_lemmas.proofs.BlockDepths.{first_falls, second_falls, body_falls}
use Rattle.wy_flow.proofs.statements.+statements.Goals as goal

pub stmt_typed-returns-in-Declare-clause-value : goal.stmt_typed-returns-in-Declare-clause-value
stmt_typed-returns-in-Declare-clause-value t c =
    let P = seen_program c.args.program.now in
    let S = seen_state (seen_flow c.args.walk.now) c.args.state in
    let D = seen_result c.args.output.now in
    moved (λ s. spec.TypedStmt P D s S) _ _ _ _ (sym (seen_declare c.args.stmt.now c.in-Declare.ty c.in-Declare.variable c.in-Declare.value c.in-Declare.is)) c.declaration.ensures.value

pub stmt_typed-returns-in-Assign-clause-value : goal.stmt_typed-returns-in-Assign-clause-value
stmt_typed-returns-in-Assign-clause-value t c =
    let P = seen_program c.args.program.now in
    let S = seen_state (seen_flow c.args.walk.now) c.args.state in
    let D = seen_result c.args.output.now in
    moved (λ s. spec.TypedStmt P D s S) _ _ _ _ (sym (seen_assign c.args.stmt.now c.in-Assign.variable c.in-Assign.path c.in-Assign.value c.in-Assign.is))
    (moved (λ l. spec.AssignTyped P c.args.stmt.now.at c.in-Assign.variable (seen_expr c.in-Assign.value) S (map seen_step l)) _ _ _ _ c.as_slice.ensures c.assigned.ensures.value)

pub stmt_typed-returns-in-Call-clause-value : goal.stmt_typed-returns-in-Call-clause-value
stmt_typed-returns-in-Call-clause-value t c =
    let P = seen_program c.args.program.now in
    let S = seen_state (seen_flow c.args.walk.now) c.args.state in
    let D = seen_result c.args.output.now in
    moved (λ s. spec.TypedStmt P D s S) _ _ _ _ (sym (seen_call c.args.stmt.now c.in-Call.routine c.in-Call.args c.in-Call.is))
    (moved (λ l. spec.CallTyped P c.args.stmt.now.at c.in-Call.routine (tree.exprs_of (seen_exprs l)) S) _ _ _ _ c.as_slice-in-Call.ensures c.called.ensures.value)

pub stmt_typed-returns-in-Return-clause-value : goal.stmt_typed-returns-in-Return-clause-value
stmt_typed-returns-in-Return-clause-value t c =
    let P = seen_program c.args.program.now in
    let S = seen_state (seen_flow c.args.walk.now) c.args.state in
    let D = seen_result c.args.output.now in
    moved (λ s. spec.TypedStmt P D s S) _ _ _ _ (sym (seen_return c.args.stmt.now c.in-Return.value c.in-Return.is)) c.returned.ensures.value

pub stmt_typed-returns-in-Assert-clause-value : goal.stmt_typed-returns-in-Assert-clause-value
stmt_typed-returns-in-Assert-clause-value t c =
    let P = seen_program c.args.program.now in
    let S = seen_state (seen_flow c.args.walk.now) c.args.state in
    let D = seen_result c.args.output.now in
    moved (λ s. spec.TypedStmt P D s S) _ _ _ _ (sym (seen_assert c.args.stmt.now c.in-Assert.test c.in-Assert.is)) c.asserted.ensures.value

pub stmt_typed-returns-in_ok-broken-in-Break-clause-value : goal.stmt_typed-returns-in_ok-broken-in-Break-clause-value
stmt_typed-returns-in_ok-broken-in-Break-clause-value t c =
    let P = seen_program c.args.program.now in
    let S = seen_state (seen_flow c.args.walk.now) c.args.state in
    let D = seen_result c.args.output.now in
    shifted (λ s. spec.TypedStmt P D s S) _ _ _ (sym (seen_break c.args.stmt.now c.in-Break.is)) (ap (λ s. Gives (states.with_flow (seen_flow c.args.walk.now) s)) c.in_ok-broken-in-Break.ensures.value)

pub stmt_typed-returns-in-Continue-clause-value : goal.stmt_typed-returns-in-Continue-clause-value
stmt_typed-returns-in-Continue-clause-value t c =
    let P = seen_program c.args.program.now in
    let S = seen_state (seen_flow c.args.walk.now) c.args.state in
    let D = seen_result c.args.output.now in
    shifted (λ s. spec.TypedStmt P D s S) _ _ _ (sym (seen_continue c.args.stmt.now c.in-Continue.is)) (ap (λ s. Gives (states.with_flow (seen_flow c.args.walk.now) s)) c.left.ensures.value)

pub stmt_typed-returns-in-Skip-clause-value : goal.stmt_typed-returns-in-Skip-clause-value
stmt_typed-returns-in-Skip-clause-value t c =
    let P = seen_program c.args.program.now in
    let S = seen_state (seen_flow c.args.walk.now) c.args.state in
    let D = seen_result c.args.output.now in
    shifted (λ s. spec.TypedStmt P D s S) _ _ _ (sym (seen_skip c.args.stmt.now c.in-Skip.is)) refl

pub stmt_typed-returns-in-Fail-clause-value : goal.stmt_typed-returns-in-Fail-clause-value
stmt_typed-returns-in-Fail-clause-value t c =
    let P = seen_program c.args.program.now in
    let S = seen_state (seen_flow c.args.walk.now) c.args.state in
    let D = seen_result c.args.output.now in
    shifted (λ s. spec.TypedStmt P D s S) _ _ _ (sym (seen_fail c.args.stmt.now c.in-Fail.is)) (ap (λ s. Gives (states.with_flow (seen_flow c.args.walk.now) s)) c.left-in-Fail.ensures.value)

pub stmt_typed-returns-in_err-begun-in-If-clause-value : goal.stmt_typed-returns-in_err-begun-in-If-clause-value
stmt_typed-returns-in_err-begun-in-If-clause-value t c =
    let P = seen_program c.args.program.now in
    let S = seen_state (seen_flow c.args.walk.now) c.args.state in
    let D = seen_result c.args.output.now in
    moved (λ s. spec.TypedStmt P D s S) _ _ _ _ (sym (seen_if c.args.stmt.now c.in-If.test c.in-If.first c.in-If.second c.in-If.is))
    (moved (λ l. spec.TypedStmt P D (tree.IfStmt c.args.stmt.now.at (seen_expr c.in-If.test) (seen_block l) (seen_block c.in-If.second)) S) _ _ _ _ c.as_slice-first.ensures
    (moved (λ l. spec.TypedStmt P D (tree.IfStmt c.args.stmt.now.at (seen_expr c.in-If.test) (seen_block c.as_slice-first.result.now) (seen_block l)) S) _ _ _ _ c.as_slice-second.ensures
    (first_refused _ _ _ _ _ c.in_err-begun-in-If.ensures.value c.from_residual-in_err-begun-in-If.ensures.1)))

pub stmt_typed-returns-in_err-taken-in-If-clause-value : goal.stmt_typed-returns-in_err-taken-in-If-clause-value
stmt_typed-returns-in_err-taken-in-If-clause-value t c =
    let P = seen_program c.args.program.now in
    let S = seen_state (seen_flow c.args.walk.now) c.args.state in
    let D = seen_result c.args.output.now in
    moved (λ s. spec.TypedStmt P D s S) _ _ _ _ (sym (seen_if c.args.stmt.now c.in-If.test c.in-If.first c.in-If.second c.in-If.is))
    (moved (λ l. spec.TypedStmt P D (tree.IfStmt c.args.stmt.now.at (seen_expr c.in-If.test) (seen_block l) (seen_block c.in-If.second)) S) _ _ _ _ c.as_slice-first.ensures
    (moved (λ l. spec.TypedStmt P D (tree.IfStmt c.args.stmt.now.at (seen_expr c.in-If.test) (seen_block c.as_slice-first.result.now) (seen_block l)) S) _ _ _ _ c.as_slice-second.ensures
    (next _ _ _ _ _ c.in_ok-begun-in-If.ensures.value
    (first_refused _ _ _ _ _ c.in_err-taken-in-If.ensures.value c.from_residual-in_err-taken-in-If.ensures.1))))

pub stmt_typed-returns-in_err-other-in-If-clause-value : goal.stmt_typed-returns-in_err-other-in-If-clause-value
stmt_typed-returns-in_err-other-in-If-clause-value t c =
    let P = seen_program c.args.program.now in
    let S = seen_state (seen_flow c.args.walk.now) c.args.state in
    let D = seen_result c.args.output.now in
    moved (λ s. spec.TypedStmt P D s S) _ _ _ _ (sym (seen_if c.args.stmt.now c.in-If.test c.in-If.first c.in-If.second c.in-If.is))
    (moved (λ l. spec.TypedStmt P D (tree.IfStmt c.args.stmt.now.at (seen_expr c.in-If.test) (seen_block l) (seen_block c.in-If.second)) S) _ _ _ _ c.as_slice-first.ensures
    (moved (λ l. spec.TypedStmt P D (tree.IfStmt c.args.stmt.now.at (seen_expr c.in-If.test) (seen_block c.as_slice-first.result.now) (seen_block l)) S) _ _ _ _ c.as_slice-second.ensures
    (next _ _ _ _ _ c.in_ok-begun-in-If.ensures.value
    (next _ _ _ _ _ c.in_ok-taken-in-If.ensures.value
    (first_refused _ _ _ _ _ (λ n. (shifted (λ s. spec.TypedBlock P D (seen_block c.as_slice-second.result.now) s) _ _ _ (ap (states.with_flow _) c.begin_else-before.ensures.begun) (c.in_err-other-in-If.ensures.value n))) c.from_residual-in_err-other-in-If.ensures.1)))))

pub stmt_typed-returns-in_ok-other-in-If-clause-value : goal.stmt_typed-returns-in_ok-other-in-If-clause-value
stmt_typed-returns-in_ok-other-in-If-clause-value t c =
    let P = seen_program c.args.program.now in
    let S = seen_state (seen_flow c.args.walk.now) c.args.state in
    let D = seen_result c.args.output.now in
    moved (λ s. spec.TypedStmt P D s S) _ _ _ _ (sym (seen_if c.args.stmt.now c.in-If.test c.in-If.first c.in-If.second c.in-If.is))
    (moved (λ l. spec.TypedStmt P D (tree.IfStmt c.args.stmt.now.at (seen_expr c.in-If.test) (seen_block l) (seen_block c.in-If.second)) S) _ _ _ _ c.as_slice-first.ensures
    (moved (λ l. spec.TypedStmt P D (tree.IfStmt c.args.stmt.now.at (seen_expr c.in-If.test) (seen_block c.as_slice-first.result.now) (seen_block l)) S) _ _ _ _ c.as_slice-second.ensures
    (next _ _ _ _ _ c.in_ok-begun-in-If.ensures.value
    (next _ _ _ _ _ c.in_ok-taken-in-If.ensures.value
    (next _ _ _ _ _ (shifted (λ s. spec.TypedBlock P D (seen_block c.as_slice-second.result.now) s) _ _ _ (ap (states.with_flow _) c.begin_else-before.ensures.begun) c.in_ok-other-in-If.ensures.value)
    (end_if_by _ _ _ _ _ _ _ c.begin_else-before.ensures.ended c.end_if.ensures.value))))))

pub stmt_typed-returns-in_err-inside-in-While-clause-value : goal.stmt_typed-returns-in_err-inside-in-While-clause-value
stmt_typed-returns-in_err-inside-in-While-clause-value t c =
    let P = seen_program c.args.program.now in
    let S = seen_state (seen_flow c.args.walk.now) c.args.state in
    let D = seen_result c.args.output.now in
    moved (λ s. spec.TypedStmt P D s S) _ _ _ _ (sym (seen_while c.args.stmt.now c.in-While.test c.in-While.invariants c.in-While.body c.in-While.is))
    (moved (λ l. spec.TypedStmt P D (tree.WhileStmt c.args.stmt.now.at (seen_expr c.in-While.test) (seen_exprs l) (seen_block c.in-While.body)) S) _ _ _ _ c.as_slice-invariants.ensures
    (moved (λ l. spec.TypedStmt P D (tree.WhileStmt c.args.stmt.now.at (seen_expr c.in-While.test) (seen_exprs c.as_slice-invariants.result.now) (seen_block l)) S) _ _ _ _ c.as_slice-body.ensures
    (first_refused _ _ _ _ _ c.in_err-inside-in-While.ensures.value c.from_residual-in_err-inside-in-While.ensures.1)))

pub stmt_typed-returns-in_err-turn-in-While-clause-value : goal.stmt_typed-returns-in_err-turn-in-While-clause-value
stmt_typed-returns-in_err-turn-in-While-clause-value t c =
    let P = seen_program c.args.program.now in
    let S = seen_state (seen_flow c.args.walk.now) c.args.state in
    let D = seen_result c.args.output.now in
    moved (λ s. spec.TypedStmt P D s S) _ _ _ _ (sym (seen_while c.args.stmt.now c.in-While.test c.in-While.invariants c.in-While.body c.in-While.is))
    (moved (λ l. spec.TypedStmt P D (tree.WhileStmt c.args.stmt.now.at (seen_expr c.in-While.test) (seen_exprs l) (seen_block c.in-While.body)) S) _ _ _ _ c.as_slice-invariants.ensures
    (moved (λ l. spec.TypedStmt P D (tree.WhileStmt c.args.stmt.now.at (seen_expr c.in-While.test) (seen_exprs c.as_slice-invariants.result.now) (seen_block l)) S) _ _ _ _ c.as_slice-body.ensures
    (next _ _ _ _ _ c.in_ok-inside-in-While.ensures.value
    (first_refused _ _ _ _ _ c.in_err-turn-in-While.ensures.value c.from_residual-in_err-turn-in-While.ensures.1))))

pub stmt_typed-returns-in_ok-turn-in-While-clause-value : goal.stmt_typed-returns-in_ok-turn-in-While-clause-value
stmt_typed-returns-in_ok-turn-in-While-clause-value t c =
    let P = seen_program c.args.program.now in
    let S = seen_state (seen_flow c.args.walk.now) c.args.state in
    let D = seen_result c.args.output.now in
    moved (λ s. spec.TypedStmt P D s S) _ _ _ _ (sym (seen_while c.args.stmt.now c.in-While.test c.in-While.invariants c.in-While.body c.in-While.is))
    (moved (λ l. spec.TypedStmt P D (tree.WhileStmt c.args.stmt.now.at (seen_expr c.in-While.test) (seen_exprs l) (seen_block c.in-While.body)) S) _ _ _ _ c.as_slice-invariants.ensures
    (moved (λ l. spec.TypedStmt P D (tree.WhileStmt c.args.stmt.now.at (seen_expr c.in-While.test) (seen_exprs c.as_slice-invariants.result.now) (seen_block l)) S) _ _ _ _ c.as_slice-body.ensures
    (next _ _ _ _ _ c.in_ok-inside-in-While.ensures.value
    (next _ _ _ _ _ c.in_ok-turn-in-While.ensures.value
    (end_loop_by _ _ _ _ _ (seen_state _ c.in_ok-turn-in-While.turn) _ _ c.in_ok-inside-in-While.ensures.around c.end_loop.ensures.value)))))

pub block_typed-returns-in_err-next-clause-value : goal.block_typed-returns-in_err-next-clause-value
block_typed-returns-in_err-next-clause-value t c =
    let P = seen_program c.args.program.now in
    let D = seen_result c.args.output.now in
    let Z = seen_state (seen_flow c.loop-stmt.walk) c.loop-stmt.here in
    let I = c.stmt-item.result in
    onto _ _ _ _ c.loop-stmt.invariant.steps
    (moved (λ l. spec.TypedBlock P D (seen_block l) Z) _ _ _ _ (sym (item_and_rest c.args.block.now c.loop-stmt.stmt-index I c.loop-stmt-test.true c.stmt-item.is)) (first_refused _ _ _ _ _ c.in_err-next.ensures.value c.from_residual.ensures.1))

pub block_typed-loop-stmt-preserved : goal.block_typed-loop-stmt-preserved
block_typed-loop-stmt-preserved t c =
    let P = seen_program c.args.program.now in
    let D = seen_result c.args.output.now in
    let Z = seen_state (seen_flow c.loop-stmt.walk) c.loop-stmt.here in
    let I = c.stmt-item.result in
    record {
      over = c.in_ok-next.ensures.over;
      steps = λ o h. c.loop-stmt.invariant.steps o (shifted (λ l. spec.TypedBlock P D (seen_block l) Z) _ _ _ (sym (item_and_rest c.args.block.now c.loop-stmt.stmt-index I c.loop-stmt-test.true c.stmt-item.is))
          (gave (seen_state (seen_flow c.stmt_typed.new.walk) c.in_ok-next.next) _ c.in_ok-next.ensures.value h));
    }

pub stmt_typed-block_typed-requires : goal.stmt_typed-block_typed-requires
stmt_typed-block_typed-requires t c =
    (first_of (omega (arith, c.decreases, first_falls c.args.stmt.now c.in-If.test c.in-If.first c.in-If.second c.as_slice-first.result.now c.in-If.is c.as_slice-first.ensures), grind (arith, c.decreases, first_falls c.args.stmt.now c.in-If.test c.in-If.first c.in-If.second c.as_slice-first.result.now c.in-If.is c.as_slice-first.ensures), search (rules, first_falls c.args.stmt.now c.in-If.test c.in-If.first c.in-If.second c.as_slice-first.result.now c.in-If.is c.as_slice-first.ensures)), (c.requires.recursion, c.in_ok-begun-in-If.ensures.over))

pub stmt_typed-block_typed-requires-in-If : goal.stmt_typed-block_typed-requires-in-If
stmt_typed-block_typed-requires-in-If t c =
    (first_of (omega (arith, c.decreases, second_falls c.args.stmt.now c.in-If.test c.in-If.first c.in-If.second c.as_slice-second.result.now c.in-If.is c.as_slice-second.ensures), grind (arith, c.decreases, second_falls c.args.stmt.now c.in-If.test c.in-If.first c.in-If.second c.as_slice-second.result.now c.in-If.is c.as_slice-second.ensures), search (rules, second_falls c.args.stmt.now c.in-If.test c.in-If.first c.in-If.second c.as_slice-second.result.now c.in-If.is c.as_slice-second.ensures)), (c.requires.recursion, c.in_ok-taken-in-If.ensures.over))

pub stmt_typed-block_typed-requires-in-While : goal.stmt_typed-block_typed-requires-in-While
stmt_typed-block_typed-requires-in-While t c =
    (first_of (omega (arith, c.decreases, body_falls c.args.stmt.now c.in-While.test c.in-While.invariants c.in-While.body c.as_slice-body.result.now c.in-While.is c.as_slice-body.ensures), grind (arith, c.decreases, body_falls c.args.stmt.now c.in-While.test c.in-While.invariants c.in-While.body c.as_slice-body.result.now c.in-While.is c.as_slice-body.ensures), search (rules, body_falls c.args.stmt.now c.in-While.test c.in-While.invariants c.in-While.body c.as_slice-body.result.now c.in-While.is c.as_slice-body.ensures)), (c.requires.recursion, c.in_ok-inside-in-While.ensures.over))
