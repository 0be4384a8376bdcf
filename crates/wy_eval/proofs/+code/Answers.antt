use Rattle.std.proofs.Common.{◌≡◌, ◌+◌, ◌-◌, ◌≤◌, suc, List, Option, None, Bool, true, refl, sym, ap, ◌∙◌, map, length, Some, Ok, FitsSigned, rules, arith, ◌∷◌, subst, to_z, of_z, pos, ◌+ℤ◌}
use borrow.Author.Gap.{gap_up, read_sfits, up_fits}
use Rattle.std.specs.Int.{w128}
use Rattle.std.proofs.lemmas.Int.{to_z-of_z}
use Rattle.wy_core.specs.CoreTree as tree
use Rattle.wy_core.specs.CoreSeen.{seen_alias, seen_block, seen_core, seen_expr, seen_exprs, seen_fields, seen_option as seen_expr_option, seen_step, seen_stmt, seen_ty, seen_decl, seen_routine}
use Rattle.wy_value.specs.Datum as datum
use Rattle.wy_value.specs.declared.value.Value.TheVariants as value
use Rattle.wy_value.specs.Seen.{seen}
use Rattle.wy_value.proofs.SeenLemmas.{seen_null, seen_bool, seen_int}
use Rattle.wy_sem.specs.Meter.{Meter, Done, Fault, ◌>>=◌, choose, check as sem_check}
use Rattle.wy_term.specs.declared.cond.CondKind.TheVariants.{Assert, Entry, Fail}
use Rattle.wy_sem.specs.Expressions as spec
use Rattle.wy_sem.specs.Expressions.{Store, clauses, eval, slot}
use Rattle.wy_sem.specs.TypeTests.{clause_setting}
use Rattle.wy_sem.specs.Operations as operations
use Rattle.wy_sem.specs.Operations.{needed}
use Rattle.wy_eval_exprs.specs.Operands.{parts_of, seen_option}
use Rattle.wy_eval_exprs.specs.Outcomes.{meter_of, stopped}
use Rattle.wy_eval_exprs.specs.Scopes.{scope, store_of}
use Rattle.wy_eval_exprs.specs.Settings.{data_in, here, turns_of}
use Rattle.wy_eval_exprs.proofs.ExpressionKinds.{null_of, bool_of, int_of, var_of, call_of, neg_of, not_of, len_of, binary_of, is_of, index_of, field_of, list_of, repeat_of, record_of, quant_of}
use Rattle.wy_eval_exprs.proofs.StepLemmas.{done, gives_as, spent, refused, then_gives, then_is, then_stops, after_spend, as_kind, eval_stops, array_is, record_is, no_memory}
use Rattle.wy_eval_exprs.proofs.TurnLemmas.{values_begin, values_turn, values_refused, values_end, fields_begin, fields_turn, fields_refused, fields_end, turns_turn, turns_early, turns_refused, turns_fault, TurnsLeft}
use Rattle.wy_eval_exprs.proofs.VisitLemmas.{each_from, turn_is, turn_refused, early_said, early_silent}
use Rattle.wy_eval.specs.Settings.{built_in_call, code, slots_in}
use Rattle.wy_eval.proofs.StatementLemmas.{declare_of, assign_of, call_of as call_stmt_of, return_of, assert_of, break_of, continue_of, skip_of, fail_of, if_of, while_of, as_stmt, exec_stops, block_turn, block_ends, block_stops, block_end, needed_gives}
use Rattle.wy_sem.specs.Statements as statements
use Rattle.wy_sem.specs.Statements.{exec_all}
use Rattle.wy_sem.specs.Evaluation.{callee, result_of, run as spec_run}
use Rattle.wy_eval.specs.Exits.{frame, seen_exit}
use Rattle.wy_eval.proofs.FollowLemmas.{checked, checked_stops, clauses_then, clauses_stops}
use Rattle.wy_eval.specs.Turns.{GoesRound}
use Rattle.wy_eval.proofs.RoundLemmas.{truth_is, truth_stops, truth_faults, turning, round_unticked, round_untested, round_begun, round_left, round_unended, round_ended}
use Rattle.wy_eval.proofs.PathLemmas.{path_begin, index_steps, index_stops, index_wrong, field_steps, field_missing, step_refused, path_turn, path_stop, path_end}
use Rattle.wy_eval.proofs.AssignLemmas.{assigned_whole, behind_path, along_path, assigned_part, needed_then, needed_stops}
use Rattle.wy_eval.proofs.RunLemmas.{clauses_as, leave_as, result_as, body_of, run_declared, body_is, run_stops, run_built_in}
use Rattle.wy_eval.proofs.TurningLemmas.{round_as}
use Rattle.wy_eval.proofs.+code.Goals as goal

pub expressions::value_of-returns-in-Null : goal.expressions::value_of-returns-in-Null
expressions::value_of-returns-in-Null t c =
    let W = code (seen_core c.args.core.now) (map seen_alias c.args.program.now.declared.types) c.args.program.now.declared.limit c.args.calls in
    let P = true in
    let S = scope (store_of c.args.store.now) c.args.over.now in
    let M0 = meter_of c.args.meter.now in
    let M1 = meter_of c.spend.new.self in
    let E = c.args.expr.now in
    let H = c.in_ok-spend.ensures.value in
    record { value = ap (λ x. eval W P x S M0) (null_of E c.in-Null.is) ∙ (spent P (Done datum.Null) M0 M1 H ∙ ap (λ d. Done d M1) (sym (seen_null))) }

pub expressions::value_of-returns-in-Bool : goal.expressions::value_of-returns-in-Bool
expressions::value_of-returns-in-Bool t c =
    let W = code (seen_core c.args.core.now) (map seen_alias c.args.program.now.declared.types) c.args.program.now.declared.limit c.args.calls in
    let P = true in
    let S = scope (store_of c.args.store.now) c.args.over.now in
    let M0 = meter_of c.args.meter.now in
    let M1 = meter_of c.spend.new.self in
    let E = c.args.expr.now in
    let H = c.in_ok-spend.ensures.value in
    record { value = ap (λ x. eval W P x S M0) (bool_of E c.in-Bool.truth c.in-Bool.is) ∙ (spent P (Done (datum.Truth c.in-Bool.truth)) M0 M1 H ∙ ap (λ d. Done d M1) (sym (seen_bool c.in-Bool.truth))) }

pub expressions::value_of-returns-in-Int : goal.expressions::value_of-returns-in-Int
expressions::value_of-returns-in-Int t c =
    let W = code (seen_core c.args.core.now) (map seen_alias c.args.program.now.declared.types) c.args.program.now.declared.limit c.args.calls in
    let P = true in
    let S = scope (store_of c.args.store.now) c.args.over.now in
    let M0 = meter_of c.args.meter.now in
    let M1 = meter_of c.spend.new.self in
    let E = c.args.expr.now in
    let H = c.in_ok-spend.ensures.value in
    let F : FitsSigned w128 c.in-Int.number = search rules in
    record { value = ap (λ x. eval W P x S M0) (int_of E c.in-Int.number c.in-Int.is) ∙ (spent P (Done (datum.Whole c.in-Int.number)) M0 M1 H ∙ (ap (λ d. Done d M1) (sym (seen_int c.in-Int.number)) ∙ ap (λ n. Done (seen (value.Int n)) M1) (sym (to_z-of_z w128 c.in-Int.number F)))) }

pub expressions::value_of-returns-in-Var : goal.expressions::value_of-returns-in-Var
expressions::value_of-returns-in-Var t c =
    let W = code (seen_core c.args.core.now) (map seen_alias c.args.program.now.declared.types) c.args.program.now.declared.limit c.args.calls in
    let P = true in
    let S = scope (store_of c.args.store.now) c.args.over.now in
    let M0 = meter_of c.args.meter.now in
    let M1 = meter_of c.spend.new.self in
    let A = c.args.expr.now.at in
    let E = c.args.expr.now in
    let X = seen_expr c.args.expr.now in
    let H = c.in_ok-spend.ensures.value in
    record {
      value = as_kind W P X (tree.VarExpr A c.in-Var.number) S M0 seen c.variable.result M1 (var_of E c.in-Var.number c.in-Var.is)
          (after_spend seen P (needed A (slot S c.in-Var.number) Done) M0 M1 c.variable.result M1 H (c.variable.ensures.value M1));
    }

pub expressions::value_of-returns-in_err-spend : goal.expressions::value_of-returns-in_err-spend
expressions::value_of-returns-in_err-spend t c =
    let W = code (seen_core c.args.core.now) (map seen_alias c.args.program.now.declared.types) c.args.program.now.declared.limit c.args.calls in
    let P = true in
    let S = scope (store_of c.args.store.now) c.args.over.now in
    let M0 = meter_of c.args.meter.now in
    let M1 = meter_of c.spend.new.self in
    record { value = refused seen (eval W P (seen_expr c.args.expr.now) S M0) M1 c.in_err-spend.field-0.0 c.from_residual.result (λ none. eval_stops W P (seen_expr c.args.expr.now) S M0 M1 c.in_err-spend.field-0.0 c.in_err-spend.ensures.value none) c.from_residual.ensures.1 }

pub expressions::value_of-returns-in_err-value-in-Neg : goal.expressions::value_of-returns-in_err-value-in-Neg
expressions::value_of-returns-in_err-value-in-Neg t c =
    let W = code (seen_core c.args.core.now) (map seen_alias c.args.program.now.declared.types) c.args.program.now.declared.limit c.args.calls in
    let P = true in
    let S = scope (store_of c.args.store.now) c.args.over.now in
    let M0 = meter_of c.args.meter.now in
    let M1 = meter_of c.spend.new.self in
    let A = c.args.expr.now.at in
    let E = c.args.expr.now in
    let X = seen_expr c.args.expr.now in
    let H = c.in_ok-spend.ensures.value in
    record {
      value = as_kind W P X (tree.NegExpr A (seen_expr c.get-operand.result.now)) S M0 seen c.from_residual-in_err-value-in-Neg.result (meter_of c.value_of.new.meter) (neg_of E c.in-Neg.operand c.get-operand.result.now c.in-Neg.is c.get-operand.ensures)
          (after_spend seen P (λ m. eval W P (seen_expr c.get-operand.result.now) S m >>= (operations.negated A)) M0 M1 c.from_residual-in_err-value-in-Neg.result (meter_of c.value_of.new.meter) H
          (then_stops seen (eval W P (seen_expr c.get-operand.result.now) S M1) (operations.negated A) (meter_of c.value_of.new.meter) c.in_err-value-in-Neg.field-0.0 c.from_residual-in_err-value-in-Neg.result c.in_err-value-in-Neg.ensures.value c.from_residual-in_err-value-in-Neg.ensures.1));
    }

pub expressions::value_of-returns-in_ok-value-in-Neg : goal.expressions::value_of-returns-in_ok-value-in-Neg
expressions::value_of-returns-in_ok-value-in-Neg t c =
    let W = code (seen_core c.args.core.now) (map seen_alias c.args.program.now.declared.types) c.args.program.now.declared.limit c.args.calls in
    let P = true in
    let S = scope (store_of c.args.store.now) c.args.over.now in
    let M0 = meter_of c.args.meter.now in
    let M1 = meter_of c.spend.new.self in
    let A = c.args.expr.now.at in
    let E = c.args.expr.now in
    let X = seen_expr c.args.expr.now in
    let H = c.in_ok-spend.ensures.value in
    record {
      value = as_kind W P X (tree.NegExpr A (seen_expr c.get-operand.result.now)) S M0 seen c.negated.result (meter_of c.value_of.new.meter) (neg_of E c.in-Neg.operand c.get-operand.result.now c.in-Neg.is c.get-operand.ensures)
          (after_spend seen P (λ m. eval W P (seen_expr c.get-operand.result.now) S m >>= (operations.negated A)) M0 M1 c.negated.result (meter_of c.value_of.new.meter) H
          (then_gives seen (eval W P (seen_expr c.get-operand.result.now) S M1) (operations.negated A) (seen c.in_ok-value-in-Neg.value) (meter_of c.value_of.new.meter) c.negated.result (meter_of c.value_of.new.meter) c.in_ok-value-in-Neg.ensures.value
          (c.negated.ensures.value (meter_of c.value_of.new.meter))));
    }

pub expressions::value_of-returns-in_err-value-in-Not : goal.expressions::value_of-returns-in_err-value-in-Not
expressions::value_of-returns-in_err-value-in-Not t c =
    let W = code (seen_core c.args.core.now) (map seen_alias c.args.program.now.declared.types) c.args.program.now.declared.limit c.args.calls in
    let P = true in
    let S = scope (store_of c.args.store.now) c.args.over.now in
    let M0 = meter_of c.args.meter.now in
    let M1 = meter_of c.spend.new.self in
    let A = c.args.expr.now.at in
    let E = c.args.expr.now in
    let X = seen_expr c.args.expr.now in
    let H = c.in_ok-spend.ensures.value in
    record {
      value = as_kind W P X (tree.NotExpr A (seen_expr c.get-operand-in-Not.result.now)) S M0 seen c.from_residual-in_err-value-in-Not.result (meter_of c.value_of-in-Not.new.meter) (not_of E c.in-Not.operand c.get-operand-in-Not.result.now c.in-Not.is c.get-operand-in-Not.ensures)
          (after_spend seen P (λ m. eval W P (seen_expr c.get-operand-in-Not.result.now) S m >>= (operations.denied A)) M0 M1 c.from_residual-in_err-value-in-Not.result (meter_of c.value_of-in-Not.new.meter) H
          (then_stops seen (eval W P (seen_expr c.get-operand-in-Not.result.now) S M1) (operations.denied A) (meter_of c.value_of-in-Not.new.meter) c.in_err-value-in-Not.field-0.0 c.from_residual-in_err-value-in-Not.result c.in_err-value-in-Not.ensures.value c.from_residual-in_err-value-in-Not.ensures.1));
    }

pub expressions::value_of-returns-in_ok-value-in-Not : goal.expressions::value_of-returns-in_ok-value-in-Not
expressions::value_of-returns-in_ok-value-in-Not t c =
    let W = code (seen_core c.args.core.now) (map seen_alias c.args.program.now.declared.types) c.args.program.now.declared.limit c.args.calls in
    let P = true in
    let S = scope (store_of c.args.store.now) c.args.over.now in
    let M0 = meter_of c.args.meter.now in
    let M1 = meter_of c.spend.new.self in
    let A = c.args.expr.now.at in
    let E = c.args.expr.now in
    let X = seen_expr c.args.expr.now in
    let H = c.in_ok-spend.ensures.value in
    record {
      value = as_kind W P X (tree.NotExpr A (seen_expr c.get-operand-in-Not.result.now)) S M0 seen c.denied.result (meter_of c.value_of-in-Not.new.meter) (not_of E c.in-Not.operand c.get-operand-in-Not.result.now c.in-Not.is c.get-operand-in-Not.ensures)
          (after_spend seen P (λ m. eval W P (seen_expr c.get-operand-in-Not.result.now) S m >>= (operations.denied A)) M0 M1 c.denied.result (meter_of c.value_of-in-Not.new.meter) H
          (then_gives seen (eval W P (seen_expr c.get-operand-in-Not.result.now) S M1) (operations.denied A) (seen c.in_ok-value-in-Not.value) (meter_of c.value_of-in-Not.new.meter) c.denied.result (meter_of c.value_of-in-Not.new.meter) c.in_ok-value-in-Not.ensures.value
          (c.denied.ensures.value (meter_of c.value_of-in-Not.new.meter))));
    }

pub expressions::value_of-returns-in_err-value-in-Len : goal.expressions::value_of-returns-in_err-value-in-Len
expressions::value_of-returns-in_err-value-in-Len t c =
    let W = code (seen_core c.args.core.now) (map seen_alias c.args.program.now.declared.types) c.args.program.now.declared.limit c.args.calls in
    let P = true in
    let S = scope (store_of c.args.store.now) c.args.over.now in
    let M0 = meter_of c.args.meter.now in
    let M1 = meter_of c.spend.new.self in
    let A = c.args.expr.now.at in
    let E = c.args.expr.now in
    let X = seen_expr c.args.expr.now in
    let H = c.in_ok-spend.ensures.value in
    record {
      value = as_kind W P X (tree.LenExpr A (seen_expr c.get-operand-in-Len.result.now)) S M0 seen c.from_residual-in_err-value-in-Len.result (meter_of c.value_of-in-Len.new.meter) (len_of E c.in-Len.operand c.get-operand-in-Len.result.now c.in-Len.is c.get-operand-in-Len.ensures)
          (after_spend seen P (λ m. eval W P (seen_expr c.get-operand-in-Len.result.now) S m >>= (operations.length_result A)) M0 M1 c.from_residual-in_err-value-in-Len.result (meter_of c.value_of-in-Len.new.meter) H
          (then_stops seen (eval W P (seen_expr c.get-operand-in-Len.result.now) S M1) (operations.length_result A) (meter_of c.value_of-in-Len.new.meter) c.in_err-value-in-Len.field-0.0 c.from_residual-in_err-value-in-Len.result c.in_err-value-in-Len.ensures.value c.from_residual-in_err-value-in-Len.ensures.1));
    }

pub expressions::value_of-returns-in_ok-value-in-Len : goal.expressions::value_of-returns-in_ok-value-in-Len
expressions::value_of-returns-in_ok-value-in-Len t c =
    let W = code (seen_core c.args.core.now) (map seen_alias c.args.program.now.declared.types) c.args.program.now.declared.limit c.args.calls in
    let P = true in
    let S = scope (store_of c.args.store.now) c.args.over.now in
    let M0 = meter_of c.args.meter.now in
    let M1 = meter_of c.spend.new.self in
    let A = c.args.expr.now.at in
    let E = c.args.expr.now in
    let X = seen_expr c.args.expr.now in
    let H = c.in_ok-spend.ensures.value in
    record {
      value = as_kind W P X (tree.LenExpr A (seen_expr c.get-operand-in-Len.result.now)) S M0 seen c.length.result (meter_of c.value_of-in-Len.new.meter) (len_of E c.in-Len.operand c.get-operand-in-Len.result.now c.in-Len.is c.get-operand-in-Len.ensures)
          (after_spend seen P (λ m. eval W P (seen_expr c.get-operand-in-Len.result.now) S m >>= (operations.length_result A)) M0 M1 c.length.result (meter_of c.value_of-in-Len.new.meter) H
          (then_gives seen (eval W P (seen_expr c.get-operand-in-Len.result.now) S M1) (operations.length_result A) (seen c.in_ok-value-in-Len.value) (meter_of c.value_of-in-Len.new.meter) c.length.result (meter_of c.value_of-in-Len.new.meter) c.in_ok-value-in-Len.ensures.value
          (c.length.ensures.value (meter_of c.value_of-in-Len.new.meter))));
    }

pub expressions::value_of-returns-in_err-value-in-Binary : goal.expressions::value_of-returns-in_err-value-in-Binary
expressions::value_of-returns-in_err-value-in-Binary t c =
    let W = code (seen_core c.args.core.now) (map seen_alias c.args.program.now.declared.types) c.args.program.now.declared.limit c.args.calls in
    let P = true in
    let S = scope (store_of c.args.store.now) c.args.over.now in
    let M0 = meter_of c.args.meter.now in
    let M1 = meter_of c.spend.new.self in
    let A = c.args.expr.now.at in
    let E = c.args.expr.now in
    let X = seen_expr c.args.expr.now in
    let H = c.in_ok-spend.ensures.value in
    record {
      value = as_kind W P X (tree.BinaryExpr A c.in-Binary.op (seen_expr c.get-left.result.now) (seen_expr c.get-right.result.now)) S M0 seen c.from_residual-in_err-value-in-Binary.result (meter_of c.value_of-in-Binary.new.meter) (binary_of E c.in-Binary.op c.in-Binary.left c.get-left.result.now c.in-Binary.right c.get-right.result.now c.in-Binary.is c.get-left.ensures c.get-right.ensures)
          (after_spend seen P (λ m. eval W P (seen_expr c.get-left.result.now) S m >>= (operations.operated c.in-Binary.op A (eval W P (seen_expr c.get-right.result.now) S))) M0 M1 c.from_residual-in_err-value-in-Binary.result (meter_of c.value_of-in-Binary.new.meter) H
          (then_stops seen (eval W P (seen_expr c.get-left.result.now) S M1) (operations.operated c.in-Binary.op A (eval W P (seen_expr c.get-right.result.now) S)) (meter_of c.value_of-in-Binary.new.meter) c.in_err-value-in-Binary.field-0.0 c.from_residual-in_err-value-in-Binary.result c.in_err-value-in-Binary.ensures.value c.from_residual-in_err-value-in-Binary.ensures.1));
    }

pub expressions::value_of-returns-in_ok-value-in-Binary : goal.expressions::value_of-returns-in_ok-value-in-Binary
expressions::value_of-returns-in_ok-value-in-Binary t c =
    let W = code (seen_core c.args.core.now) (map seen_alias c.args.program.now.declared.types) c.args.program.now.declared.limit c.args.calls in
    let P = true in
    let S = scope (store_of c.args.store.now) c.args.over.now in
    let M0 = meter_of c.args.meter.now in
    let M1 = meter_of c.spend.new.self in
    let A = c.args.expr.now.at in
    let E = c.args.expr.now in
    let X = seen_expr c.args.expr.now in
    let H = c.in_ok-spend.ensures.value in
    record {
      value = as_kind W P X (tree.BinaryExpr A c.in-Binary.op (seen_expr c.get-left.result.now) (seen_expr c.get-right.result.now)) S M0 seen c.operated.result (meter_of c.operated.new.meter) (binary_of E c.in-Binary.op c.in-Binary.left c.get-left.result.now c.in-Binary.right c.get-right.result.now c.in-Binary.is c.get-left.ensures c.get-right.ensures)
          (after_spend seen P (λ m. eval W P (seen_expr c.get-left.result.now) S m >>= (operations.operated c.in-Binary.op A (eval W P (seen_expr c.get-right.result.now) S))) M0 M1 c.operated.result (meter_of c.operated.new.meter) H
          (then_gives seen (eval W P (seen_expr c.get-left.result.now) S M1) (operations.operated c.in-Binary.op A (eval W P (seen_expr c.get-right.result.now) S)) (seen c.in_ok-value-in-Binary.value) (meter_of c.value_of-in-Binary.new.meter) c.operated.result (meter_of c.operated.new.meter) c.in_ok-value-in-Binary.ensures.value
          (c.operated.ensures.value)));
    }

pub expressions::value_of-returns-in_err-value-in-Is : goal.expressions::value_of-returns-in_err-value-in-Is
expressions::value_of-returns-in_err-value-in-Is t c =
    let W = code (seen_core c.args.core.now) (map seen_alias c.args.program.now.declared.types) c.args.program.now.declared.limit c.args.calls in
    let P = true in
    let S = scope (store_of c.args.store.now) c.args.over.now in
    let M0 = meter_of c.args.meter.now in
    let M1 = meter_of c.spend.new.self in
    let A = c.args.expr.now.at in
    let E = c.args.expr.now in
    let X = seen_expr c.args.expr.now in
    let H = c.in_ok-spend.ensures.value in
    record {
      value = as_kind W P X (tree.IsExpr A (seen_expr c.get-operand-in-Is.result.now) (seen_ty c.in-Is.ty)) S M0 seen c.from_residual-in_err-value-in-Is.result (meter_of c.value_of-in-Is.new.meter) (is_of E c.in-Is.operand c.get-operand-in-Is.result.now c.in-Is.ty c.in-Is.is c.get-operand-in-Is.ensures)
          (after_spend seen P (λ m. eval W P (seen_expr c.get-operand-in-Is.result.now) S m >>= (λ v k. W.test P (seen_ty c.in-Is.ty) v k >>= (λ b. Done (datum.Truth b)))) M0 M1 c.from_residual-in_err-value-in-Is.result (meter_of c.value_of-in-Is.new.meter) H
          (then_stops seen (eval W P (seen_expr c.get-operand-in-Is.result.now) S M1) (λ v k. W.test P (seen_ty c.in-Is.ty) v k >>= (λ b. Done (datum.Truth b))) (meter_of c.value_of-in-Is.new.meter) c.in_err-value-in-Is.field-0.0 c.from_residual-in_err-value-in-Is.result c.in_err-value-in-Is.ensures.value c.from_residual-in_err-value-in-Is.ensures.1));
    }

pub expressions::value_of-returns-in_err-truth-in-Is : goal.expressions::value_of-returns-in_err-truth-in-Is
expressions::value_of-returns-in_err-truth-in-Is t c =
    let W = code (seen_core c.args.core.now) (map seen_alias c.args.program.now.declared.types) c.args.program.now.declared.limit c.args.calls in
    let P = true in
    let S = scope (store_of c.args.store.now) c.args.over.now in
    let M0 = meter_of c.args.meter.now in
    let M1 = meter_of c.spend.new.self in
    let A = c.args.expr.now.at in
    let E = c.args.expr.now in
    let X = seen_expr c.args.expr.now in
    let H = c.in_ok-spend.ensures.value in
    record {
      value = as_kind W P X (tree.IsExpr A (seen_expr c.get-operand-in-Is.result.now) (seen_ty c.in-Is.ty)) S M0 seen c.from_residual-in_err-truth-in-Is.result (meter_of c.tested.new.meter) (is_of E c.in-Is.operand c.get-operand-in-Is.result.now c.in-Is.ty c.in-Is.is c.get-operand-in-Is.ensures)
          (after_spend seen P (λ m. eval W P (seen_expr c.get-operand-in-Is.result.now) S m >>= (λ v k. W.test P (seen_ty c.in-Is.ty) v k >>= (λ b. Done (datum.Truth b)))) M0 M1 c.from_residual-in_err-truth-in-Is.result (meter_of c.tested.new.meter) H
          (then_gives seen (eval W P (seen_expr c.get-operand-in-Is.result.now) S M1) (λ v k. W.test P (seen_ty c.in-Is.ty) v k >>= (λ b. Done (datum.Truth b))) (seen c.in_ok-value-in-Is.value) (meter_of c.value_of-in-Is.new.meter) c.from_residual-in_err-truth-in-Is.result (meter_of c.tested.new.meter) c.in_ok-value-in-Is.ensures.value
          (then_stops seen (W.test P (seen_ty c.in-Is.ty) (seen c.in_ok-value-in-Is.value) (meter_of c.value_of-in-Is.new.meter)) (λ b. Done (datum.Truth b)) (meter_of c.tested.new.meter) c.in_err-truth-in-Is.field-0.0 c.from_residual-in_err-truth-in-Is.result c.in_err-truth-in-Is.ensures.value c.from_residual-in_err-truth-in-Is.ensures.1)));
    }

pub expressions::value_of-returns-in_ok-truth-in-Is : goal.expressions::value_of-returns-in_ok-truth-in-Is
expressions::value_of-returns-in_ok-truth-in-Is t c =
    let W = code (seen_core c.args.core.now) (map seen_alias c.args.program.now.declared.types) c.args.program.now.declared.limit c.args.calls in
    let P = true in
    let S = scope (store_of c.args.store.now) c.args.over.now in
    let M0 = meter_of c.args.meter.now in
    let M1 = meter_of c.spend.new.self in
    let A = c.args.expr.now.at in
    let E = c.args.expr.now in
    let X = seen_expr c.args.expr.now in
    let H = c.in_ok-spend.ensures.value in
    record {
      value = as_kind W P X (tree.IsExpr A (seen_expr c.get-operand-in-Is.result.now) (seen_ty c.in-Is.ty)) S M0 seen (Ok (value.Bool c.in_ok-truth-in-Is.truth)) (meter_of c.tested.new.meter) (is_of E c.in-Is.operand c.get-operand-in-Is.result.now c.in-Is.ty c.in-Is.is c.get-operand-in-Is.ensures)
          (after_spend seen P (λ m. eval W P (seen_expr c.get-operand-in-Is.result.now) S m >>= (λ v k. W.test P (seen_ty c.in-Is.ty) v k >>= (λ b. Done (datum.Truth b)))) M0 M1 (Ok (value.Bool c.in_ok-truth-in-Is.truth)) (meter_of c.tested.new.meter) H
          (then_gives seen (eval W P (seen_expr c.get-operand-in-Is.result.now) S M1) (λ v k. W.test P (seen_ty c.in-Is.ty) v k >>= (λ b. Done (datum.Truth b))) (seen c.in_ok-value-in-Is.value) (meter_of c.value_of-in-Is.new.meter) (Ok (value.Bool c.in_ok-truth-in-Is.truth)) (meter_of c.tested.new.meter) c.in_ok-value-in-Is.ensures.value
          (then_is (W.test P (seen_ty c.in-Is.ty) (seen c.in_ok-value-in-Is.value) (meter_of c.value_of-in-Is.new.meter)) (λ b. Done (datum.Truth b)) c.in_ok-truth-in-Is.truth (meter_of c.tested.new.meter) c.in_ok-truth-in-Is.ensures.value ∙ ap (λ d. Done d (meter_of c.tested.new.meter)) (sym (seen_bool c.in_ok-truth-in-Is.truth)))));
    }

pub expressions::value_of-returns-in_err-value-in-Index : goal.expressions::value_of-returns-in_err-value-in-Index
expressions::value_of-returns-in_err-value-in-Index t c =
    let W = code (seen_core c.args.core.now) (map seen_alias c.args.program.now.declared.types) c.args.program.now.declared.limit c.args.calls in
    let P = true in
    let S = scope (store_of c.args.store.now) c.args.over.now in
    let M0 = meter_of c.args.meter.now in
    let M1 = meter_of c.spend.new.self in
    let A = c.args.expr.now.at in
    let E = c.args.expr.now in
    let X = seen_expr c.args.expr.now in
    let H = c.in_ok-spend.ensures.value in
    record {
      value = as_kind W P X (tree.IndexExpr A (seen_expr c.get-array.result.now) (seen_expr c.get-index.result.now)) S M0 seen c.from_residual-in_err-value-in-Index.result (meter_of c.value_of-in-Index.new.meter) (index_of E c.in-Index.array c.get-array.result.now c.in-Index.index c.get-index.result.now c.in-Index.is c.get-array.ensures c.get-index.ensures)
          (after_spend seen P (λ m. eval W P (seen_expr c.get-array.result.now) S m >>= (λ v k. eval W P (seen_expr c.get-index.result.now) S k >>= operations.item_of A v)) M0 M1 c.from_residual-in_err-value-in-Index.result (meter_of c.value_of-in-Index.new.meter) H
          (then_stops seen (eval W P (seen_expr c.get-array.result.now) S M1) (λ v k. eval W P (seen_expr c.get-index.result.now) S k >>= operations.item_of A v) (meter_of c.value_of-in-Index.new.meter) c.in_err-value-in-Index.field-0.0 c.from_residual-in_err-value-in-Index.result c.in_err-value-in-Index.ensures.value c.from_residual-in_err-value-in-Index.ensures.1));
    }

pub expressions::value_of-returns-in_err-place-in-Index : goal.expressions::value_of-returns-in_err-place-in-Index
expressions::value_of-returns-in_err-place-in-Index t c =
    let W = code (seen_core c.args.core.now) (map seen_alias c.args.program.now.declared.types) c.args.program.now.declared.limit c.args.calls in
    let P = true in
    let S = scope (store_of c.args.store.now) c.args.over.now in
    let M0 = meter_of c.args.meter.now in
    let M1 = meter_of c.spend.new.self in
    let A = c.args.expr.now.at in
    let E = c.args.expr.now in
    let X = seen_expr c.args.expr.now in
    let H = c.in_ok-spend.ensures.value in
    record {
      value = as_kind W P X (tree.IndexExpr A (seen_expr c.get-array.result.now) (seen_expr c.get-index.result.now)) S M0 seen c.from_residual-in_err-place-in-Index.result (meter_of c.value_of-in-Index-2.new.meter) (index_of E c.in-Index.array c.get-array.result.now c.in-Index.index c.get-index.result.now c.in-Index.is c.get-array.ensures c.get-index.ensures)
          (after_spend seen P (λ m. eval W P (seen_expr c.get-array.result.now) S m >>= (λ v k. eval W P (seen_expr c.get-index.result.now) S k >>= operations.item_of A v)) M0 M1 c.from_residual-in_err-place-in-Index.result (meter_of c.value_of-in-Index-2.new.meter) H
          (then_gives seen (eval W P (seen_expr c.get-array.result.now) S M1) (λ v k. eval W P (seen_expr c.get-index.result.now) S k >>= operations.item_of A v) (seen c.in_ok-value-in-Index.value) (meter_of c.value_of-in-Index.new.meter) c.from_residual-in_err-place-in-Index.result (meter_of c.value_of-in-Index-2.new.meter) c.in_ok-value-in-Index.ensures.value
          (then_stops seen (eval W P (seen_expr c.get-index.result.now) S (meter_of c.value_of-in-Index.new.meter)) (operations.item_of A (seen c.in_ok-value-in-Index.value)) (meter_of c.value_of-in-Index-2.new.meter) c.in_err-place-in-Index.field-0.0 c.from_residual-in_err-place-in-Index.result c.in_err-place-in-Index.ensures.value c.from_residual-in_err-place-in-Index.ensures.1)));
    }

pub expressions::value_of-returns-in_ok-place-in-Index : goal.expressions::value_of-returns-in_ok-place-in-Index
expressions::value_of-returns-in_ok-place-in-Index t c =
    let W = code (seen_core c.args.core.now) (map seen_alias c.args.program.now.declared.types) c.args.program.now.declared.limit c.args.calls in
    let P = true in
    let S = scope (store_of c.args.store.now) c.args.over.now in
    let M0 = meter_of c.args.meter.now in
    let M1 = meter_of c.spend.new.self in
    let A = c.args.expr.now.at in
    let E = c.args.expr.now in
    let X = seen_expr c.args.expr.now in
    let H = c.in_ok-spend.ensures.value in
    record {
      value = as_kind W P X (tree.IndexExpr A (seen_expr c.get-array.result.now) (seen_expr c.get-index.result.now)) S M0 seen c.item_of.result (meter_of c.value_of-in-Index-2.new.meter) (index_of E c.in-Index.array c.get-array.result.now c.in-Index.index c.get-index.result.now c.in-Index.is c.get-array.ensures c.get-index.ensures)
          (after_spend seen P (λ m. eval W P (seen_expr c.get-array.result.now) S m >>= (λ v k. eval W P (seen_expr c.get-index.result.now) S k >>= operations.item_of A v)) M0 M1 c.item_of.result (meter_of c.value_of-in-Index-2.new.meter) H
          (then_gives seen (eval W P (seen_expr c.get-array.result.now) S M1) (λ v k. eval W P (seen_expr c.get-index.result.now) S k >>= operations.item_of A v) (seen c.in_ok-value-in-Index.value) (meter_of c.value_of-in-Index.new.meter) c.item_of.result (meter_of c.value_of-in-Index-2.new.meter) c.in_ok-value-in-Index.ensures.value
          (then_gives seen (eval W P (seen_expr c.get-index.result.now) S (meter_of c.value_of-in-Index.new.meter)) (operations.item_of A (seen c.in_ok-value-in-Index.value)) (seen c.in_ok-place-in-Index.place) (meter_of c.value_of-in-Index-2.new.meter) c.item_of.result (meter_of c.value_of-in-Index-2.new.meter) c.in_ok-place-in-Index.ensures.value (c.item_of.ensures.value (meter_of c.value_of-in-Index-2.new.meter)))));
    }

pub expressions::value_of-returns-in_err-value-in-Field : goal.expressions::value_of-returns-in_err-value-in-Field
expressions::value_of-returns-in_err-value-in-Field t c =
    let W = code (seen_core c.args.core.now) (map seen_alias c.args.program.now.declared.types) c.args.program.now.declared.limit c.args.calls in
    let P = true in
    let S = scope (store_of c.args.store.now) c.args.over.now in
    let M0 = meter_of c.args.meter.now in
    let M1 = meter_of c.spend.new.self in
    let A = c.args.expr.now.at in
    let E = c.args.expr.now in
    let X = seen_expr c.args.expr.now in
    let H = c.in_ok-spend.ensures.value in
    record {
      value = as_kind W P X (tree.FieldExpr A (seen_expr c.get-whole.result.now) c.in-Field.name) S M0 seen c.from_residual-in_err-value-in-Field.result (meter_of c.value_of-in-Field.new.meter) (field_of E c.in-Field.whole c.get-whole.result.now c.in-Field.name c.in-Field.is c.get-whole.ensures)
          (after_spend seen P (λ m. eval W P (seen_expr c.get-whole.result.now) S m >>= (λ v. operations.field_of A v c.in-Field.name)) M0 M1 c.from_residual-in_err-value-in-Field.result (meter_of c.value_of-in-Field.new.meter) H
          (then_stops seen (eval W P (seen_expr c.get-whole.result.now) S M1) (λ v. operations.field_of A v c.in-Field.name) (meter_of c.value_of-in-Field.new.meter) c.in_err-value-in-Field.field-0.0 c.from_residual-in_err-value-in-Field.result c.in_err-value-in-Field.ensures.value c.from_residual-in_err-value-in-Field.ensures.1));
    }

pub expressions::value_of-returns-in_ok-value-in-Field : goal.expressions::value_of-returns-in_ok-value-in-Field
expressions::value_of-returns-in_ok-value-in-Field t c =
    let W = code (seen_core c.args.core.now) (map seen_alias c.args.program.now.declared.types) c.args.program.now.declared.limit c.args.calls in
    let P = true in
    let S = scope (store_of c.args.store.now) c.args.over.now in
    let M0 = meter_of c.args.meter.now in
    let M1 = meter_of c.spend.new.self in
    let A = c.args.expr.now.at in
    let E = c.args.expr.now in
    let X = seen_expr c.args.expr.now in
    let H = c.in_ok-spend.ensures.value in
    record {
      value = as_kind W P X (tree.FieldExpr A (seen_expr c.get-whole.result.now) c.in-Field.name) S M0 seen c.field_of.result (meter_of c.value_of-in-Field.new.meter) (field_of E c.in-Field.whole c.get-whole.result.now c.in-Field.name c.in-Field.is c.get-whole.ensures)
          (after_spend seen P (λ m. eval W P (seen_expr c.get-whole.result.now) S m >>= (λ v. operations.field_of A v c.in-Field.name)) M0 M1 c.field_of.result (meter_of c.value_of-in-Field.new.meter) H
          (then_gives seen (eval W P (seen_expr c.get-whole.result.now) S M1) (λ v. operations.field_of A v c.in-Field.name) (seen c.in_ok-value-in-Field.value) (meter_of c.value_of-in-Field.new.meter) c.field_of.result (meter_of c.value_of-in-Field.new.meter) c.in_ok-value-in-Field.ensures.value
          (c.field_of.ensures.value (meter_of c.value_of-in-Field.new.meter))));
    }

pub expressions::value_of-returns-in_err-value-in-Repeat : goal.expressions::value_of-returns-in_err-value-in-Repeat
expressions::value_of-returns-in_err-value-in-Repeat t c =
    let W = code (seen_core c.args.core.now) (map seen_alias c.args.program.now.declared.types) c.args.program.now.declared.limit c.args.calls in
    let P = true in
    let S = scope (store_of c.args.store.now) c.args.over.now in
    let M0 = meter_of c.args.meter.now in
    let M1 = meter_of c.spend.new.self in
    let A = c.args.expr.now.at in
    let E = c.args.expr.now in
    let X = seen_expr c.args.expr.now in
    let H = c.in_ok-spend.ensures.value in
    record {
      value = as_kind W P X (tree.RepeatExpr A (seen_expr c.get-item.result.now) (seen_expr c.get-count.result.now)) S M0 seen c.from_residual-in_err-value-in-Repeat.result (meter_of c.value_of-in-Repeat.new.meter) (repeat_of E c.in-Repeat.item c.get-item.result.now c.in-Repeat.count c.get-count.result.now c.in-Repeat.is c.get-item.ensures c.get-count.ensures)
          (after_spend seen P (λ m. eval W P (seen_expr c.get-item.result.now) S m >>= (λ v k. eval W P (seen_expr c.get-count.result.now) S k >>= operations.repeated A v)) M0 M1 c.from_residual-in_err-value-in-Repeat.result (meter_of c.value_of-in-Repeat.new.meter) H
          (then_stops seen (eval W P (seen_expr c.get-item.result.now) S M1) (λ v k. eval W P (seen_expr c.get-count.result.now) S k >>= operations.repeated A v) (meter_of c.value_of-in-Repeat.new.meter) c.in_err-value-in-Repeat.field-0.0 c.from_residual-in_err-value-in-Repeat.result c.in_err-value-in-Repeat.ensures.value c.from_residual-in_err-value-in-Repeat.ensures.1));
    }

pub expressions::value_of-returns-in_err-times-in-Repeat : goal.expressions::value_of-returns-in_err-times-in-Repeat
expressions::value_of-returns-in_err-times-in-Repeat t c =
    let W = code (seen_core c.args.core.now) (map seen_alias c.args.program.now.declared.types) c.args.program.now.declared.limit c.args.calls in
    let P = true in
    let S = scope (store_of c.args.store.now) c.args.over.now in
    let M0 = meter_of c.args.meter.now in
    let M1 = meter_of c.spend.new.self in
    let A = c.args.expr.now.at in
    let E = c.args.expr.now in
    let X = seen_expr c.args.expr.now in
    let H = c.in_ok-spend.ensures.value in
    record {
      value = as_kind W P X (tree.RepeatExpr A (seen_expr c.get-item.result.now) (seen_expr c.get-count.result.now)) S M0 seen c.from_residual-in_err-times-in-Repeat.result (meter_of c.value_of-in-Repeat-2.new.meter) (repeat_of E c.in-Repeat.item c.get-item.result.now c.in-Repeat.count c.get-count.result.now c.in-Repeat.is c.get-item.ensures c.get-count.ensures)
          (after_spend seen P (λ m. eval W P (seen_expr c.get-item.result.now) S m >>= (λ v k. eval W P (seen_expr c.get-count.result.now) S k >>= operations.repeated A v)) M0 M1 c.from_residual-in_err-times-in-Repeat.result (meter_of c.value_of-in-Repeat-2.new.meter) H
          (then_gives seen (eval W P (seen_expr c.get-item.result.now) S M1) (λ v k. eval W P (seen_expr c.get-count.result.now) S k >>= operations.repeated A v) (seen c.in_ok-value-in-Repeat.value) (meter_of c.value_of-in-Repeat.new.meter) c.from_residual-in_err-times-in-Repeat.result (meter_of c.value_of-in-Repeat-2.new.meter) c.in_ok-value-in-Repeat.ensures.value
          (then_stops seen (eval W P (seen_expr c.get-count.result.now) S (meter_of c.value_of-in-Repeat.new.meter)) (operations.repeated A (seen c.in_ok-value-in-Repeat.value)) (meter_of c.value_of-in-Repeat-2.new.meter) c.in_err-times-in-Repeat.field-0.0 c.from_residual-in_err-times-in-Repeat.result c.in_err-times-in-Repeat.ensures.value c.from_residual-in_err-times-in-Repeat.ensures.1)));
    }

pub expressions::value_of-returns-in_ok-times-in-Repeat : goal.expressions::value_of-returns-in_ok-times-in-Repeat
expressions::value_of-returns-in_ok-times-in-Repeat t c =
    let W = code (seen_core c.args.core.now) (map seen_alias c.args.program.now.declared.types) c.args.program.now.declared.limit c.args.calls in
    let P = true in
    let S = scope (store_of c.args.store.now) c.args.over.now in
    let M0 = meter_of c.args.meter.now in
    let M1 = meter_of c.spend.new.self in
    let A = c.args.expr.now.at in
    let E = c.args.expr.now in
    let X = seen_expr c.args.expr.now in
    let H = c.in_ok-spend.ensures.value in
    record {
      value = as_kind W P X (tree.RepeatExpr A (seen_expr c.get-item.result.now) (seen_expr c.get-count.result.now)) S M0 seen c.repeated.result (meter_of c.value_of-in-Repeat-2.new.meter) (repeat_of E c.in-Repeat.item c.get-item.result.now c.in-Repeat.count c.get-count.result.now c.in-Repeat.is c.get-item.ensures c.get-count.ensures)
          (after_spend seen P (λ m. eval W P (seen_expr c.get-item.result.now) S m >>= (λ v k. eval W P (seen_expr c.get-count.result.now) S k >>= operations.repeated A v)) M0 M1 c.repeated.result (meter_of c.value_of-in-Repeat-2.new.meter) H
          (then_gives seen (eval W P (seen_expr c.get-item.result.now) S M1) (λ v k. eval W P (seen_expr c.get-count.result.now) S k >>= operations.repeated A v) (seen c.in_ok-value-in-Repeat.value) (meter_of c.value_of-in-Repeat.new.meter) c.repeated.result (meter_of c.value_of-in-Repeat-2.new.meter) c.in_ok-value-in-Repeat.ensures.value
          (then_gives seen (eval W P (seen_expr c.get-count.result.now) S (meter_of c.value_of-in-Repeat.new.meter)) (operations.repeated A (seen c.in_ok-value-in-Repeat.value)) (seen c.in_ok-times-in-Repeat.times) (meter_of c.value_of-in-Repeat-2.new.meter) c.repeated.result (meter_of c.value_of-in-Repeat-2.new.meter) c.in_ok-times-in-Repeat.ensures.value (c.repeated.ensures.value (meter_of c.value_of-in-Repeat-2.new.meter)))));
    }

pub expressions::value_of-returns-in_err-first-in-Quant : goal.expressions::value_of-returns-in_err-first-in-Quant
expressions::value_of-returns-in_err-first-in-Quant t c =
    let W = code (seen_core c.args.core.now) (map seen_alias c.args.program.now.declared.types) c.args.program.now.declared.limit c.args.calls in
    let P = true in
    let S = scope (store_of c.args.store.now) c.args.over.now in
    let M0 = meter_of c.args.meter.now in
    let M1 = meter_of c.spend.new.self in
    let A = c.args.expr.now.at in
    let E = c.args.expr.now in
    let X = seen_expr c.args.expr.now in
    let H = c.in_ok-spend.ensures.value in
    record {
      value = as_kind W P X (tree.QuantExpr A c.in-Quant.all c.in-Quant.number (seen_expr c.get-from.result.now) (seen_expr c.get-to.result.now) (seen_expr c.get-body.result.now)) S M0 seen c.from_residual-in_err-first-in-Quant.result (meter_of c.value_of-in-Quant.new.meter) (quant_of E c.in-Quant.all c.in-Quant.number c.in-Quant.from c.get-from.result.now c.in-Quant.to c.get-to.result.now c.in-Quant.body c.get-body.result.now c.in-Quant.is c.get-from.ensures c.get-to.ensures c.get-body.ensures)
          (after_spend seen P (λ m. eval W P (seen_expr c.get-from.result.now) S m >>= (λ v k. eval W P (seen_expr c.get-to.result.now) S k >>= (λ u. spec.quantified c.in-Quant.all A (turns_of W P (seen_expr c.get-body.result.now) S c.in-Quant.number) v u))) M0 M1 c.from_residual-in_err-first-in-Quant.result (meter_of c.value_of-in-Quant.new.meter) H
          (then_stops seen (eval W P (seen_expr c.get-from.result.now) S M1) (λ v k. eval W P (seen_expr c.get-to.result.now) S k >>= (λ u. spec.quantified c.in-Quant.all A (turns_of W P (seen_expr c.get-body.result.now) S c.in-Quant.number) v u)) (meter_of c.value_of-in-Quant.new.meter) c.in_err-first-in-Quant.field-0.0 c.from_residual-in_err-first-in-Quant.result c.in_err-first-in-Quant.ensures.value c.from_residual-in_err-first-in-Quant.ensures.1));
    }

pub expressions::value_of-returns-in_err-behind-in-Quant : goal.expressions::value_of-returns-in_err-behind-in-Quant
expressions::value_of-returns-in_err-behind-in-Quant t c =
    let W = code (seen_core c.args.core.now) (map seen_alias c.args.program.now.declared.types) c.args.program.now.declared.limit c.args.calls in
    let P = true in
    let S = scope (store_of c.args.store.now) c.args.over.now in
    let M0 = meter_of c.args.meter.now in
    let M1 = meter_of c.spend.new.self in
    let A = c.args.expr.now.at in
    let E = c.args.expr.now in
    let X = seen_expr c.args.expr.now in
    let H = c.in_ok-spend.ensures.value in
    record {
      value = as_kind W P X (tree.QuantExpr A c.in-Quant.all c.in-Quant.number (seen_expr c.get-from.result.now) (seen_expr c.get-to.result.now) (seen_expr c.get-body.result.now)) S M0 seen c.from_residual-in_err-behind-in-Quant.result (meter_of c.value_of-in-Quant-2.new.meter) (quant_of E c.in-Quant.all c.in-Quant.number c.in-Quant.from c.get-from.result.now c.in-Quant.to c.get-to.result.now c.in-Quant.body c.get-body.result.now c.in-Quant.is c.get-from.ensures c.get-to.ensures c.get-body.ensures)
          (after_spend seen P (λ m. eval W P (seen_expr c.get-from.result.now) S m >>= (λ v k. eval W P (seen_expr c.get-to.result.now) S k >>= (λ u. spec.quantified c.in-Quant.all A (turns_of W P (seen_expr c.get-body.result.now) S c.in-Quant.number) v u))) M0 M1 c.from_residual-in_err-behind-in-Quant.result (meter_of c.value_of-in-Quant-2.new.meter) H
          (then_gives seen (eval W P (seen_expr c.get-from.result.now) S M1) (λ v k. eval W P (seen_expr c.get-to.result.now) S k >>= (λ u. spec.quantified c.in-Quant.all A (turns_of W P (seen_expr c.get-body.result.now) S c.in-Quant.number) v u)) (seen c.in_ok-first-in-Quant.first) (meter_of c.value_of-in-Quant.new.meter) c.from_residual-in_err-behind-in-Quant.result (meter_of c.value_of-in-Quant-2.new.meter) c.in_ok-first-in-Quant.ensures.value
          (then_stops seen (eval W P (seen_expr c.get-to.result.now) S (meter_of c.value_of-in-Quant.new.meter)) (λ u. spec.quantified c.in-Quant.all A (turns_of W P (seen_expr c.get-body.result.now) S c.in-Quant.number) (seen c.in_ok-first-in-Quant.first) u) (meter_of c.value_of-in-Quant-2.new.meter) c.in_err-behind-in-Quant.field-0.0 c.from_residual-in_err-behind-in-Quant.result c.in_err-behind-in-Quant.ensures.value c.from_residual-in_err-behind-in-Quant.ensures.1)));
    }

pub expressions::value_of-returns-in_ok-behind-in-Quant : goal.expressions::value_of-returns-in_ok-behind-in-Quant
expressions::value_of-returns-in_ok-behind-in-Quant t c =
    let W = code (seen_core c.args.core.now) (map seen_alias c.args.program.now.declared.types) c.args.program.now.declared.limit c.args.calls in
    let P = true in
    let S = scope (store_of c.args.store.now) c.args.over.now in
    let M0 = meter_of c.args.meter.now in
    let M1 = meter_of c.spend.new.self in
    let A = c.args.expr.now.at in
    let E = c.args.expr.now in
    let X = seen_expr c.args.expr.now in
    let H = c.in_ok-spend.ensures.value in
    record {
      value = as_kind W P X (tree.QuantExpr A c.in-Quant.all c.in-Quant.number (seen_expr c.get-from.result.now) (seen_expr c.get-to.result.now) (seen_expr c.get-body.result.now)) S M0 seen c.quantified.result (meter_of c.quantified.new.meter) (quant_of E c.in-Quant.all c.in-Quant.number c.in-Quant.from c.get-from.result.now c.in-Quant.to c.get-to.result.now c.in-Quant.body c.get-body.result.now c.in-Quant.is c.get-from.ensures c.get-to.ensures c.get-body.ensures)
          (after_spend seen P (λ m. eval W P (seen_expr c.get-from.result.now) S m >>= (λ v k. eval W P (seen_expr c.get-to.result.now) S k >>= (λ u. spec.quantified c.in-Quant.all A (turns_of W P (seen_expr c.get-body.result.now) S c.in-Quant.number) v u))) M0 M1 c.quantified.result (meter_of c.quantified.new.meter) H
          (then_gives seen (eval W P (seen_expr c.get-from.result.now) S M1) (λ v k. eval W P (seen_expr c.get-to.result.now) S k >>= (λ u. spec.quantified c.in-Quant.all A (turns_of W P (seen_expr c.get-body.result.now) S c.in-Quant.number) v u)) (seen c.in_ok-first-in-Quant.first) (meter_of c.value_of-in-Quant.new.meter) c.quantified.result (meter_of c.quantified.new.meter) c.in_ok-first-in-Quant.ensures.value
          (then_gives seen (eval W P (seen_expr c.get-to.result.now) S (meter_of c.value_of-in-Quant.new.meter)) (λ u. spec.quantified c.in-Quant.all A (turns_of W P (seen_expr c.get-body.result.now) S c.in-Quant.number) (seen c.in_ok-first-in-Quant.first) u) (seen c.in_ok-behind-in-Quant.behind) (meter_of c.value_of-in-Quant-2.new.meter) c.quantified.result (meter_of c.quantified.new.meter) c.in_ok-behind-in-Quant.ensures.value (c.quantified.ensures.value))));
    }

pub expressions::value_of-returns-in_err-values-in-Call : goal.expressions::value_of-returns-in_err-values-in-Call
expressions::value_of-returns-in_err-values-in-Call t c =
    let W = code (seen_core c.args.core.now) (map seen_alias c.args.program.now.declared.types) c.args.program.now.declared.limit c.args.calls in
    let P = true in
    let S = scope (store_of c.args.store.now) c.args.over.now in
    let M0 = meter_of c.args.meter.now in
    let M1 = meter_of c.spend.new.self in
    let A = c.args.expr.now.at in
    let E = c.args.expr.now in
    let X = seen_expr c.args.expr.now in
    let H = c.in_ok-spend.ensures.value in
    let n = c.in-Call.routine in
    let es = tree.exprs_of (seen_exprs c.as_slice-args.result.now) in
    let K = meter_of c.values_of.new.meter in
    let is = call_of E n c.in-Call.args c.as_slice-args.result.now c.in-Call.is c.as_slice-args.ensures in
    let go = λ (m : Meter). spec.eval_all W P es S m >>= (λ vs k. W.call n A vs k >>= (λ v. needed A v Done)) in
    let r = c.from_residual-in_err-values-in-Call.result in
    record {
      value = as_kind W P X (tree.CallExpr A n es) S M0 seen r K is
          (after_spend seen P go M0 M1 r K H (then_stops seen (spec.eval_all W P es S M1) (λ vs k. W.call n A vs k >>= (λ v. needed A v Done)) K c.in_err-values-in-Call.field-0.0 r c.in_err-values-in-Call.ensures.value c.from_residual-in_err-values-in-Call.ensures.1));
    }

pub expressions::value_of-returns-in_err-given-in-Call : goal.expressions::value_of-returns-in_err-given-in-Call
expressions::value_of-returns-in_err-given-in-Call t c =
    let W = code (seen_core c.args.core.now) (map seen_alias c.args.program.now.declared.types) c.args.program.now.declared.limit c.args.calls in
    let P = true in
    let S = scope (store_of c.args.store.now) c.args.over.now in
    let M0 = meter_of c.args.meter.now in
    let M1 = meter_of c.spend.new.self in
    let A = c.args.expr.now.at in
    let E = c.args.expr.now in
    let X = seen_expr c.args.expr.now in
    let H = c.in_ok-spend.ensures.value in
    let n = c.in-Call.routine in
    let es = tree.exprs_of (seen_exprs c.as_slice-args.result.now) in
    let K = meter_of c.values_of.new.meter in
    let is = call_of E n c.in-Call.args c.as_slice-args.result.now c.in-Call.is c.as_slice-args.ensures in
    let go = λ (m : Meter). spec.eval_all W P es S m >>= (λ vs k. W.call n A vs k >>= (λ v. needed A v Done)) in
    let vs = map seen c.in_ok-values-in-Call.values in
    let J = meter_of c.run.new.meter in
    let called = ap (λ l. W.call n A (map seen l) K) (sym c.as_slice-values.ensures) in
    let C = W.call n A (map seen c.as_slice-values.result.now) K in
    let r = c.from_residual-in_err-given-in-Call.result in
    record {
      value = as_kind W P X (tree.CallExpr A n es) S M0 seen r J is
          (after_spend seen P go M0 M1 r J H
          (then_gives seen (spec.eval_all W P es S M1) (λ us k. W.call n A us k >>= (λ v. needed A v Done)) vs K r J c.in_ok-values-in-Call.ensures.value
          (gives_as seen (W.call n A vs K >>= (λ v. needed A v Done)) (C >>= (λ v. needed A v Done)) r J (ap (λ o. o >>= (λ v. needed A v Done)) called)
          (then_stops seen C (λ v. needed A v Done) J c.in_err-given-in-Call.field-0.0 r c.in_err-given-in-Call.ensures.value c.from_residual-in_err-given-in-Call.ensures.1))));
    }

pub expressions::value_of-returns-in_ok-given-in-Call : goal.expressions::value_of-returns-in_ok-given-in-Call
expressions::value_of-returns-in_ok-given-in-Call t c =
    let W = code (seen_core c.args.core.now) (map seen_alias c.args.program.now.declared.types) c.args.program.now.declared.limit c.args.calls in
    let P = true in
    let S = scope (store_of c.args.store.now) c.args.over.now in
    let M0 = meter_of c.args.meter.now in
    let M1 = meter_of c.spend.new.self in
    let A = c.args.expr.now.at in
    let E = c.args.expr.now in
    let X = seen_expr c.args.expr.now in
    let H = c.in_ok-spend.ensures.value in
    let n = c.in-Call.routine in
    let es = tree.exprs_of (seen_exprs c.as_slice-args.result.now) in
    let K = meter_of c.values_of.new.meter in
    let is = call_of E n c.in-Call.args c.as_slice-args.result.now c.in-Call.is c.as_slice-args.ensures in
    let go = λ (m : Meter). spec.eval_all W P es S m >>= (λ vs k. W.call n A vs k >>= (λ v. needed A v Done)) in
    let vs = map seen c.in_ok-values-in-Call.values in
    let J = meter_of c.run.new.meter in
    let called = ap (λ l. W.call n A (map seen l) K) (sym c.as_slice-values.ensures) in
    let C = W.call n A (map seen c.as_slice-values.result.now) K in
    let r = c.needed.result in
    let g = c.in_ok-given-in-Call.given in
    record {
      value = as_kind W P X (tree.CallExpr A n es) S M0 seen r J is
          (after_spend seen P go M0 M1 r J H
          (then_gives seen (spec.eval_all W P es S M1) (λ us k. W.call n A us k >>= (λ v. needed A v Done)) vs K r J c.in_ok-values-in-Call.ensures.value
          (gives_as seen (W.call n A vs K >>= (λ v. needed A v Done)) (C >>= (λ v. needed A v Done)) r J (ap (λ o. o >>= (λ v. needed A v Done)) called)
          (then_gives seen C (λ v. needed A v Done) (seen_option g) J r J c.in_ok-given-in-Call.ensures.value (needed_gives A g r J c.needed.ensures.value)))));
    }

pub expressions::value_of-returns-in_err-values-in-List : goal.expressions::value_of-returns-in_err-values-in-List
expressions::value_of-returns-in_err-values-in-List t c =
    let W = code (seen_core c.args.core.now) (map seen_alias c.args.program.now.declared.types) c.args.program.now.declared.limit c.args.calls in
    let P = true in
    let S = scope (store_of c.args.store.now) c.args.over.now in
    let M0 = meter_of c.args.meter.now in
    let M1 = meter_of c.spend.new.self in
    let A = c.args.expr.now.at in
    let E = c.args.expr.now in
    let X = seen_expr c.args.expr.now in
    let H = c.in_ok-spend.ensures.value in
    record {
      value = as_kind W P X (tree.ListExpr A (tree.exprs_of (seen_exprs c.as_slice-items.result.now))) S M0 seen c.from_residual-in_err-values-in-List.result (meter_of c.values_of-in-List.new.meter) (list_of E c.in-List.items c.as_slice-items.result.now c.in-List.is c.as_slice-items.ensures)
          (after_spend seen P (λ m. spec.eval_all W P (tree.exprs_of (seen_exprs c.as_slice-items.result.now)) S m >>= (λ vs. Done (datum.Array (spec.data_of vs)))) M0 M1 c.from_residual-in_err-values-in-List.result (meter_of c.values_of-in-List.new.meter) H
          (then_stops seen (spec.eval_all W P (tree.exprs_of (seen_exprs c.as_slice-items.result.now)) S M1) (λ vs. Done (datum.Array (spec.data_of vs))) (meter_of c.values_of-in-List.new.meter) c.in_err-values-in-List.field-0.0 c.from_residual-in_err-values-in-List.result c.in_err-values-in-List.ensures.value c.from_residual-in_err-values-in-List.ensures.1));
    }

pub expressions::value_of-returns-in_ok-values-in-List : goal.expressions::value_of-returns-in_ok-values-in-List
expressions::value_of-returns-in_ok-values-in-List t c =
    let W = code (seen_core c.args.core.now) (map seen_alias c.args.program.now.declared.types) c.args.program.now.declared.limit c.args.calls in
    let P = true in
    let S = scope (store_of c.args.store.now) c.args.over.now in
    let M0 = meter_of c.args.meter.now in
    let M1 = meter_of c.spend.new.self in
    let A = c.args.expr.now.at in
    let E = c.args.expr.now in
    let X = seen_expr c.args.expr.now in
    let H = c.in_ok-spend.ensures.value in
    record {
      value = as_kind W P X (tree.ListExpr A (tree.exprs_of (seen_exprs c.as_slice-items.result.now))) S M0 seen (Ok (value.Array c.in_ok-values-in-List.values)) (meter_of c.values_of-in-List.new.meter) (list_of E c.in-List.items c.as_slice-items.result.now c.in-List.is c.as_slice-items.ensures)
          (after_spend seen P (λ m. spec.eval_all W P (tree.exprs_of (seen_exprs c.as_slice-items.result.now)) S m >>= (λ vs. Done (datum.Array (spec.data_of vs)))) M0 M1 (Ok (value.Array c.in_ok-values-in-List.values)) (meter_of c.values_of-in-List.new.meter) H
          (then_is (spec.eval_all W P (tree.exprs_of (seen_exprs c.as_slice-items.result.now)) S M1) (λ vs. Done (datum.Array (spec.data_of vs))) (map seen c.in_ok-values-in-List.values) (meter_of c.values_of-in-List.new.meter) c.in_ok-values-in-List.ensures.value ∙ ap (λ d. Done d (meter_of c.values_of-in-List.new.meter)) (sym (array_is c.in_ok-values-in-List.values))));
    }

pub expressions::value_of-returns-in_err-values-in-Record : goal.expressions::value_of-returns-in_err-values-in-Record
expressions::value_of-returns-in_err-values-in-Record t c =
    let W = code (seen_core c.args.core.now) (map seen_alias c.args.program.now.declared.types) c.args.program.now.declared.limit c.args.calls in
    let P = true in
    let S = scope (store_of c.args.store.now) c.args.over.now in
    let M0 = meter_of c.args.meter.now in
    let M1 = meter_of c.spend.new.self in
    let A = c.args.expr.now.at in
    let E = c.args.expr.now in
    let X = seen_expr c.args.expr.now in
    let H = c.in_ok-spend.ensures.value in
    record {
      value = as_kind W P X (tree.RecordExpr A (seen_fields c.as_slice-fields.result.now)) S M0 seen c.from_residual-in_err-values-in-Record.result (meter_of c.fields_of.new.meter) (record_of E c.in-Record.fields c.as_slice-fields.result.now c.in-Record.is c.as_slice-fields.ensures)
          (after_spend seen P (λ m. spec.eval_fields W P (seen_fields c.as_slice-fields.result.now) S m >>= (λ ds. Done (datum.Record ds))) M0 M1 c.from_residual-in_err-values-in-Record.result (meter_of c.fields_of.new.meter) H
          (then_stops seen (spec.eval_fields W P (seen_fields c.as_slice-fields.result.now) S M1) (λ ds. Done (datum.Record ds)) (meter_of c.fields_of.new.meter) c.in_err-values-in-Record.field-0.0 c.from_residual-in_err-values-in-Record.result c.in_err-values-in-Record.ensures.value c.from_residual-in_err-values-in-Record.ensures.1));
    }

pub expressions::value_of-returns-in_ok-values-in-Record : goal.expressions::value_of-returns-in_ok-values-in-Record
expressions::value_of-returns-in_ok-values-in-Record t c =
    let W = code (seen_core c.args.core.now) (map seen_alias c.args.program.now.declared.types) c.args.program.now.declared.limit c.args.calls in
    let P = true in
    let S = scope (store_of c.args.store.now) c.args.over.now in
    let M0 = meter_of c.args.meter.now in
    let M1 = meter_of c.spend.new.self in
    let A = c.args.expr.now.at in
    let E = c.args.expr.now in
    let X = seen_expr c.args.expr.now in
    let H = c.in_ok-spend.ensures.value in
    record {
      value = as_kind W P X (tree.RecordExpr A (seen_fields c.as_slice-fields.result.now)) S M0 seen (Ok (value.Record c.in_ok-values-in-Record.values)) (meter_of c.fields_of.new.meter) (record_of E c.in-Record.fields c.as_slice-fields.result.now c.in-Record.is c.as_slice-fields.ensures)
          (after_spend seen P (λ m. spec.eval_fields W P (seen_fields c.as_slice-fields.result.now) S m >>= (λ ds. Done (datum.Record ds))) M0 M1 (Ok (value.Record c.in_ok-values-in-Record.values)) (meter_of c.fields_of.new.meter) H
          (then_is (spec.eval_fields W P (seen_fields c.as_slice-fields.result.now) S M1) (λ ds. Done (datum.Record ds)) (parts_of c.in_ok-values-in-Record.values) (meter_of c.fields_of.new.meter) c.in_ok-values-in-Record.ensures.value ∙ ap (λ d. Done d (meter_of c.fields_of.new.meter)) (sym (record_is c.in_ok-values-in-Record.values))));
    }

pub expressions::values_of-loop-expr-init : goal.expressions::values_of-loop-expr-init
expressions::values_of-loop-expr-init t c =
    let W = code (seen_core c.args.core.now) (map seen_alias c.args.program.now.declared.types) c.args.program.now.declared.limit c.args.calls in
    let P = true in
    let S = scope (store_of c.args.store.now) c.args.over.now in
    let M0 = meter_of c.args.meter.now in
    values_begin W P S c.args.exprs.now M0 c.new-made.result c.new-made.ensures

pub expressions::values_of-loop-expr-preserved : goal.expressions::values_of-loop-expr-preserved
expressions::values_of-loop-expr-preserved t c =
    let W = code (seen_core c.args.core.now) (map seen_alias c.args.program.now.declared.types) c.args.program.now.declared.limit c.args.calls in
    let P = true in
    let S = scope (store_of c.args.store.now) c.args.over.now in
    let M0 = meter_of c.args.meter.now in
    let N = meter_of c.loop-expr.meter in
    values_turn W P S c.args.exprs.now M0 c.loop-expr.made c.push.new.self N (meter_of c.value_of.new.meter) c.loop-expr.expr-index c.expr-item.result c.in_ok-value.value c.loop-expr-test.true c.expr-item.is c.in_ok-value.ensures.value c.in_ok-push.ensures.ok c.loop-expr.invariant

pub expressions::values_of-returns-in_err-value : goal.expressions::values_of-returns-in_err-value
expressions::values_of-returns-in_err-value t c =
    let W = code (seen_core c.args.core.now) (map seen_alias c.args.program.now.declared.types) c.args.program.now.declared.limit c.args.calls in
    let P = true in
    let S = scope (store_of c.args.store.now) c.args.over.now in
    let M0 = meter_of c.args.meter.now in
    let N = meter_of c.loop-expr.meter in
    record { value = refused data_in (spec.eval_all W P (tree.exprs_of (seen_exprs c.args.exprs.now)) S M0) (meter_of c.value_of.new.meter) c.in_err-value.field-0.0 c.from_residual.result (λ none. values_refused W P S c.args.exprs.now M0 c.loop-expr.made N (meter_of c.value_of.new.meter) c.loop-expr.expr-index c.expr-item.result c.in_err-value.field-0.0 c.loop-expr-test.true c.expr-item.is c.in_err-value.ensures.value c.loop-expr.invariant none) c.from_residual.ensures.1 }

pub expressions::values_of-returns-in_err-push : goal.expressions::values_of-returns-in_err-push
expressions::values_of-returns-in_err-push t c =
    let W = code (seen_core c.args.core.now) (map seen_alias c.args.program.now.declared.types) c.args.program.now.declared.limit c.args.calls in
    let P = true in
    let S = scope (store_of c.args.store.now) c.args.over.now in
    let M0 = meter_of c.args.meter.now in
    record { value = no_memory data_in (spec.eval_all W P (tree.exprs_of (seen_exprs c.args.exprs.now)) S M0) (meter_of c.value_of.new.meter) c.from_residual-in_err-push.result c.from_residual-in_err-push.ensures.1 }

pub expressions::values_of-returns : goal.expressions::values_of-returns
expressions::values_of-returns t c =
    let W = code (seen_core c.args.core.now) (map seen_alias c.args.program.now.declared.types) c.args.program.now.declared.limit c.args.calls in
    let P = true in
    let S = scope (store_of c.args.store.now) c.args.over.now in
    let M0 = meter_of c.args.meter.now in
    let N = meter_of c.loop-expr.meter in
    record { value = values_end W P S c.args.exprs.now M0 c.loop-expr.made N c.loop-expr.expr-index c.loop-expr-test.false c.loop-expr.invariant }

pub expressions::fields_of-loop-field-init : goal.expressions::fields_of-loop-field-init
expressions::fields_of-loop-field-init t c =
    let W = code (seen_core c.args.core.now) (map seen_alias c.args.program.now.declared.types) c.args.program.now.declared.limit c.args.calls in
    let P = true in
    let S = scope (store_of c.args.store.now) c.args.over.now in
    let M0 = meter_of c.args.meter.now in
    fields_begin W P S c.args.fields.now M0 c.new-made.result c.new-made.ensures

pub expressions::fields_of-loop-field-preserved : goal.expressions::fields_of-loop-field-preserved
expressions::fields_of-loop-field-preserved t c =
    let W = code (seen_core c.args.core.now) (map seen_alias c.args.program.now.declared.types) c.args.program.now.declared.limit c.args.calls in
    let P = true in
    let S = scope (store_of c.args.store.now) c.args.over.now in
    let M0 = meter_of c.args.meter.now in
    let N = meter_of c.loop-field.meter in
    fields_turn W P S c.args.fields.now M0 c.loop-field.made c.push.new.self N (meter_of c.value_of.new.meter) c.loop-field.field-index c.field-item.result c.in_ok-name.name c.in_ok-value.value c.loop-field-test.true c.field-item.is c.in_ok-value.ensures.value c.in_ok-name.ensures.value c.in_ok-push.ensures.ok c.loop-field.invariant

pub expressions::fields_of-returns-in_err-value : goal.expressions::fields_of-returns-in_err-value
expressions::fields_of-returns-in_err-value t c =
    let W = code (seen_core c.args.core.now) (map seen_alias c.args.program.now.declared.types) c.args.program.now.declared.limit c.args.calls in
    let P = true in
    let S = scope (store_of c.args.store.now) c.args.over.now in
    let M0 = meter_of c.args.meter.now in
    let N = meter_of c.loop-field.meter in
    record { value = refused parts_of (spec.eval_fields W P (seen_fields c.args.fields.now) S M0) (meter_of c.value_of.new.meter) c.in_err-value.field-0.0 c.from_residual.result (λ none. fields_refused W P S c.args.fields.now M0 c.loop-field.made N (meter_of c.value_of.new.meter) c.loop-field.field-index c.field-item.result c.in_err-value.field-0.0 c.loop-field-test.true c.field-item.is c.in_err-value.ensures.value c.loop-field.invariant none) c.from_residual.ensures.1 }

pub expressions::fields_of-returns-in_err-name : goal.expressions::fields_of-returns-in_err-name
expressions::fields_of-returns-in_err-name t c =
    let W = code (seen_core c.args.core.now) (map seen_alias c.args.program.now.declared.types) c.args.program.now.declared.limit c.args.calls in
    let P = true in
    let S = scope (store_of c.args.store.now) c.args.over.now in
    let M0 = meter_of c.args.meter.now in
    record { value = no_memory parts_of (spec.eval_fields W P (seen_fields c.args.fields.now) S M0) (meter_of c.value_of.new.meter) c.from_residual-in_err-name.result c.from_residual-in_err-name.ensures.1 }

pub expressions::fields_of-returns-in_err-push : goal.expressions::fields_of-returns-in_err-push
expressions::fields_of-returns-in_err-push t c =
    let W = code (seen_core c.args.core.now) (map seen_alias c.args.program.now.declared.types) c.args.program.now.declared.limit c.args.calls in
    let P = true in
    let S = scope (store_of c.args.store.now) c.args.over.now in
    let M0 = meter_of c.args.meter.now in
    record { value = no_memory parts_of (spec.eval_fields W P (seen_fields c.args.fields.now) S M0) (meter_of c.value_of.new.meter) c.from_residual-in_err-push.result c.from_residual-in_err-push.ensures.1 }

pub expressions::fields_of-returns : goal.expressions::fields_of-returns
expressions::fields_of-returns t c =
    let W = code (seen_core c.args.core.now) (map seen_alias c.args.program.now.declared.types) c.args.program.now.declared.limit c.args.calls in
    let P = true in
    let S = scope (store_of c.args.store.now) c.args.over.now in
    let M0 = meter_of c.args.meter.now in
    let N = meter_of c.loop-field.meter in
    record { value = fields_end W P S c.args.fields.now M0 c.loop-field.made N c.loop-field.field-index c.loop-field-test.false c.loop-field.invariant }

pub expressions::operated-returns-in-Ok-Some : goal.expressions::operated-returns-in-Ok-Some
expressions::operated-returns-in-Ok-Some t c =
    let W = code (seen_core c.args.core.now) (map seen_alias c.args.program.now.declared.types) c.args.program.now.declared.limit c.args.calls in
    let P = true in
    let M0 = meter_of c.args.meter.now in
    let S = scope (store_of c.args.store.now) c.args.over.now in
    let R = eval W P (seen_expr c.args.right.now) S in
    let V = seen c.args.left.now in
    record { value = (early_said c.args.op c.args.at V c.in-Ok-Some.field-0 c.in-Ok-Some.truth c.in-Ok-Some.field-0-is c.in-Ok-Some.ensures.value R M0) ∙ ap (λ d. Done d M0) (sym (seen_bool c.in-Ok-Some.truth)) }

pub expressions::operated-returns-in_ok-value-in-Ok-None : goal.expressions::operated-returns-in_ok-value-in-Ok-None
expressions::operated-returns-in_ok-value-in-Ok-None t c =
    let W = code (seen_core c.args.core.now) (map seen_alias c.args.program.now.declared.types) c.args.program.now.declared.limit c.args.calls in
    let P = true in
    let M0 = meter_of c.args.meter.now in
    let S = scope (store_of c.args.store.now) c.args.over.now in
    let R = eval W P (seen_expr c.args.right.now) S in
    let V = seen c.args.left.now in
    record { value = gives_as seen (operations.operated c.args.op c.args.at R V M0) (operations.second c.args.op c.args.at R V M0) c.applied.result (meter_of c.value_of.new.meter) (early_silent c.args.op c.args.at V c.in-Ok-None.field-0 c.in-Ok-None.field-0-is c.in-Ok-None.ensures.value R M0) (then_gives seen (R M0) (λ w k. operations.applied c.args.op c.args.at V w k) (seen c.in_ok-value-in-Ok-None.value) (meter_of c.value_of.new.meter) c.applied.result (meter_of c.value_of.new.meter) c.in_ok-value-in-Ok-None.ensures.value (c.applied.ensures.value (meter_of c.value_of.new.meter))) }

pub expressions::operated-returns-in_err-value-in-Ok-None : goal.expressions::operated-returns-in_err-value-in-Ok-None
expressions::operated-returns-in_err-value-in-Ok-None t c =
    let W = code (seen_core c.args.core.now) (map seen_alias c.args.program.now.declared.types) c.args.program.now.declared.limit c.args.calls in
    let P = true in
    let M0 = meter_of c.args.meter.now in
    let S = scope (store_of c.args.store.now) c.args.over.now in
    let R = eval W P (seen_expr c.args.right.now) S in
    let V = seen c.args.left.now in
    record { value = gives_as seen (operations.operated c.args.op c.args.at R V M0) (operations.second c.args.op c.args.at R V M0) c.from_residual.result (meter_of c.value_of.new.meter) (early_silent c.args.op c.args.at V c.in-Ok-None.field-0 c.in-Ok-None.field-0-is c.in-Ok-None.ensures.value R M0) (then_stops seen (R M0) (λ w k. operations.applied c.args.op c.args.at V w k) (meter_of c.value_of.new.meter) c.in_err-value-in-Ok-None.field-0.0 c.from_residual.result c.in_err-value-in-Ok-None.ensures.value c.from_residual.ensures.1) }

pub expressions::operated-returns-in-Err : goal.expressions::operated-returns-in-Err
expressions::operated-returns-in-Err t c =
    let W = code (seen_core c.args.core.now) (map seen_alias c.args.program.now.declared.types) c.args.program.now.declared.limit c.args.calls in
    let P = true in
    let M0 = meter_of c.args.meter.now in
    let S = scope (store_of c.args.store.now) c.args.over.now in
    let R = eval W P (seen_expr c.args.right.now) S in
    record { value = λ none. c.in-Err.ensures.value.1 R M0 ∙ sym (ap (λ g. stopped g M0) c.in-Err.ensures.value.0) }

pub expressions::turns-loop-number-smaller : goal.expressions::turns-loop-number-smaller
expressions::turns-loop-number-smaller t c =
    gap_up w128 (to_z w128 c.loop-number.number-bits) (to_z w128 (of_z w128 c.args.to)) c.loop-number-test.true (read_sfits w128 c.loop-number.number-bits) (read_sfits w128 (of_z w128 c.args.to))

pub expressions::turns-loop-number-preserved : goal.expressions::turns-loop-number-preserved
expressions::turns-loop-number-preserved t c =
    let L = c.args.program.now.declared.limit in
    let W = code (seen_core c.args.core.now) (map seen_alias c.args.program.now.declared.types) L c.args.calls in
    let P = true in
    let Z = store_of c.args.store.now in
    let S = scope Z c.args.over.now in
    let B = seen_expr c.args.body.now in
    let X = c.args.variable in
    let body = turns_of W P B S X in
    let M0 = meter_of c.args.meter.now in
    let N = meter_of c.loop-number.meter in
    let i = to_z w128 c.loop-number.number-bits in
    let F = to_z w128 (of_z w128 c.args.from) in
    let U = to_z w128 (of_z w128 c.args.to) in
    let M1 = meter_of c.tick.new.self in
    let K = meter_of c.value_of.new.meter in
    let inside : c.as_slice-inside.result.now ≡ (X, i) ∷ c.args.over.now = c.as_slice-inside.ensures ∙ c.in_ok-inside.ensures.value in
    let begun = turn_is W P B Z c.args.over.now c.as_slice-inside.result.now X i N M1 inside c.in_ok-tick.ensures.value in
    let same : c.in_ok-truth.truth ≡ c.args.all = search rules in
    let step = turns_turn c.args.all c.args.at body F U i M0 N K (seen c.in_ok-value.value) c.in_ok-truth.truth c.loop-number-test.true (begun ∙ c.in_ok-value.ensures.value) c.in_ok-truth.ensures.value same c.loop-number.invariant in
    let fits = up_fits w128 i U c.loop-number-test.true (read_sfits w128 c.loop-number.number-bits) (read_sfits w128 (of_z w128 c.args.to)) in
    subst (λ z. TurnsLeft c.args.all c.args.at body F U M0 z K) (sym (to_z-of_z w128 (i +ℤ pos 1) fits)) step

pub expressions::turns-returns-in_err-tick : goal.expressions::turns-returns-in_err-tick
expressions::turns-returns-in_err-tick t c =
    let L = c.args.program.now.declared.limit in
    let W = code (seen_core c.args.core.now) (map seen_alias c.args.program.now.declared.types) L c.args.calls in
    let P = true in
    let Z = store_of c.args.store.now in
    let S = scope Z c.args.over.now in
    let B = seen_expr c.args.body.now in
    let X = c.args.variable in
    let body = turns_of W P B S X in
    let M0 = meter_of c.args.meter.now in
    let N = meter_of c.loop-number.meter in
    let i = to_z w128 c.loop-number.number-bits in
    let F = to_z w128 (of_z w128 c.args.from) in
    let U = to_z w128 (of_z w128 c.args.to) in
    let G = each_from c.args.all c.args.at body c.args.from c.args.to F U M0 (to_z-of_z w128 c.args.from c.ranges.from) (to_z-of_z w128 c.args.to c.ranges.to) in
    let O = spec.each c.args.all c.args.at body c.args.from (spec.span c.args.from c.args.to) M0 in
    let V = spec.each c.args.all c.args.at body F (spec.span F U) M0 in
    let K = meter_of c.tick.new.self in
    let e = c.in_err-tick.field-0.0 in
    record {
      value = gives_as seen O V c.from_residual.result K G
          (refused seen V K e c.from_residual.result (λ none. turns_refused c.args.all c.args.at body F U i M0 N K e c.loop-number-test.true (λ q. turn_refused W P B S X i N K e c.in_err-tick.ensures.value q) c.loop-number.invariant none) c.from_residual.ensures.1);
    }

pub expressions::turns-returns-in_err-value : goal.expressions::turns-returns-in_err-value
expressions::turns-returns-in_err-value t c =
    let L = c.args.program.now.declared.limit in
    let W = code (seen_core c.args.core.now) (map seen_alias c.args.program.now.declared.types) L c.args.calls in
    let P = true in
    let Z = store_of c.args.store.now in
    let S = scope Z c.args.over.now in
    let B = seen_expr c.args.body.now in
    let X = c.args.variable in
    let body = turns_of W P B S X in
    let M0 = meter_of c.args.meter.now in
    let N = meter_of c.loop-number.meter in
    let i = to_z w128 c.loop-number.number-bits in
    let F = to_z w128 (of_z w128 c.args.from) in
    let U = to_z w128 (of_z w128 c.args.to) in
    let G = each_from c.args.all c.args.at body c.args.from c.args.to F U M0 (to_z-of_z w128 c.args.from c.ranges.from) (to_z-of_z w128 c.args.to c.ranges.to) in
    let O = spec.each c.args.all c.args.at body c.args.from (spec.span c.args.from c.args.to) M0 in
    let V = spec.each c.args.all c.args.at body F (spec.span F U) M0 in
    let M1 = meter_of c.tick.new.self in
    let K = meter_of c.value_of.new.meter in
    let inside : c.as_slice-inside.result.now ≡ (X, i) ∷ c.args.over.now = c.as_slice-inside.ensures ∙ c.in_ok-inside.ensures.value in
    let begun = turn_is W P B Z c.args.over.now c.as_slice-inside.result.now X i N M1 inside c.in_ok-tick.ensures.value in
    let e = c.in_err-value.field-0.0 in
    let r = c.from_residual-in_err-value.result in
    record {
      value = gives_as seen O V r K G
          (refused seen V K e r (λ none. turns_refused c.args.all c.args.at body F U i M0 N K e c.loop-number-test.true (λ q. begun ∙ c.in_err-value.ensures.value q) c.loop-number.invariant none) c.from_residual-in_err-value.ensures.1);
    }

pub expressions::turns-returns-in_err-truth : goal.expressions::turns-returns-in_err-truth
expressions::turns-returns-in_err-truth t c =
    let L = c.args.program.now.declared.limit in
    let W = code (seen_core c.args.core.now) (map seen_alias c.args.program.now.declared.types) L c.args.calls in
    let P = true in
    let Z = store_of c.args.store.now in
    let S = scope Z c.args.over.now in
    let B = seen_expr c.args.body.now in
    let X = c.args.variable in
    let body = turns_of W P B S X in
    let M0 = meter_of c.args.meter.now in
    let N = meter_of c.loop-number.meter in
    let i = to_z w128 c.loop-number.number-bits in
    let F = to_z w128 (of_z w128 c.args.from) in
    let U = to_z w128 (of_z w128 c.args.to) in
    let G = each_from c.args.all c.args.at body c.args.from c.args.to F U M0 (to_z-of_z w128 c.args.from c.ranges.from) (to_z-of_z w128 c.args.to c.ranges.to) in
    let O = spec.each c.args.all c.args.at body c.args.from (spec.span c.args.from c.args.to) M0 in
    let V = spec.each c.args.all c.args.at body F (spec.span F U) M0 in
    let M1 = meter_of c.tick.new.self in
    let K = meter_of c.value_of.new.meter in
    let inside : c.as_slice-inside.result.now ≡ (X, i) ∷ c.args.over.now = c.as_slice-inside.ensures ∙ c.in_ok-inside.ensures.value in
    let begun = turn_is W P B Z c.args.over.now c.as_slice-inside.result.now X i N M1 inside c.in_ok-tick.ensures.value in
    let e = c.in_err-truth.field-0.0 in
    let r = c.from_residual-in_err-truth.result in
    record {
      value = gives_as seen O V r K G
          (refused seen V K e r (λ none. turns_fault c.args.all c.args.at body F U i M0 N K (seen c.in_ok-value.value) c.loop-number-test.true (begun ∙ c.in_ok-value.ensures.value) c.in_err-truth.ensures.value.1 c.loop-number.invariant ∙ sym (ap (λ g. stopped g K) c.in_err-truth.ensures.value.0)) c.from_residual-in_err-truth.ensures.1);
    }

pub expressions::turns-returns-then-truth-all : goal.expressions::turns-returns-then-truth-all
expressions::turns-returns-then-truth-all t c =
    let L = c.args.program.now.declared.limit in
    let W = code (seen_core c.args.core.now) (map seen_alias c.args.program.now.declared.types) L c.args.calls in
    let P = true in
    let Z = store_of c.args.store.now in
    let S = scope Z c.args.over.now in
    let B = seen_expr c.args.body.now in
    let X = c.args.variable in
    let body = turns_of W P B S X in
    let M0 = meter_of c.args.meter.now in
    let N = meter_of c.loop-number.meter in
    let i = to_z w128 c.loop-number.number-bits in
    let F = to_z w128 (of_z w128 c.args.from) in
    let U = to_z w128 (of_z w128 c.args.to) in
    let G = each_from c.args.all c.args.at body c.args.from c.args.to F U M0 (to_z-of_z w128 c.args.from c.ranges.from) (to_z-of_z w128 c.args.to c.ranges.to) in
    let M1 = meter_of c.tick.new.self in
    let K = meter_of c.value_of.new.meter in
    let inside : c.as_slice-inside.result.now ≡ (X, i) ∷ c.args.over.now = c.as_slice-inside.ensures ∙ c.in_ok-inside.ensures.value in
    let begun = turn_is W P B Z c.args.over.now c.as_slice-inside.result.now X i N M1 inside c.in_ok-tick.ensures.value in
    let other : c.in_ok-truth.truth ≡ c.args.all → ⊥ = search rules in
    record {
      value = G ∙ (turns_early c.args.all c.args.at body F U i M0 N K (seen c.in_ok-value.value) c.in_ok-truth.truth c.loop-number-test.true (begun ∙ c.in_ok-value.ensures.value) c.in_ok-truth.ensures.value other c.loop-number.invariant
          ∙ ap (λ d. Done d K) (sym (seen_bool c.in_ok-truth.truth)));
    }

pub statements::exec_all-returns-in_err-exit : goal.statements::exec_all-returns-in_err-exit
statements::exec_all-returns-in_err-exit t c =
    let L = c.args.program.now.declared.limit in
    let core = seen_core c.args.core.now in
    let types = map seen_alias c.args.program.now.declared.types in
    let W = code core types L c.args.calls in
    let fr = frame L types c.args.routine.now c.args.types.now (store_of c.args.entry.now) in
    let M0 = meter_of c.args.meter.now in
    let all = c.args.stmts.now in
    let S0 = store_of c.args.store.items in
    let S = store_of c.loop-stmt.store.items in
    let N = meter_of c.loop-stmt.meter in
    let i = c.loop-stmt.stmt-index in
    let x = c.stmt-item.result in
    let K = meter_of c.exec.new.meter in
    let e = c.in_err-exit.field-0.0 in
    record { value = refused seen_exit (exec_all W fr (seen_block all) S0 M0) K e c.from_residual.result (λ none. block_stops W fr all S0 M0 S N K i x e c.loop-stmt-test.true c.stmt-item.is c.in_err-exit.ensures.value c.loop-stmt.invariant none) c.from_residual.ensures.1 }

pub statements::exec_all-returns-in-Broke : goal.statements::exec_all-returns-in-Broke
statements::exec_all-returns-in-Broke t c =
    let L = c.args.program.now.declared.limit in
    let core = seen_core c.args.core.now in
    let types = map seen_alias c.args.program.now.declared.types in
    let W = code core types L c.args.calls in
    let fr = frame L types c.args.routine.now c.args.types.now (store_of c.args.entry.now) in
    let M0 = meter_of c.args.meter.now in
    let all = c.args.stmts.now in
    let S0 = store_of c.args.store.items in
    let S = store_of c.loop-stmt.store.items in
    let N = meter_of c.loop-stmt.meter in
    let i = c.loop-stmt.stmt-index in
    let x = c.stmt-item.result in
    let K = meter_of c.exec.new.meter in
    let given = c.in_ok-exit.ensures.value ∙ ap (λ o. Done (seen_exit o) K) c.in-Broke.is in
    record { value = block_ends W fr all S0 M0 S N K i x (statements.Broke (store_of c.in-Broke.next.items)) c.loop-stmt-test.true c.stmt-item.is given refl c.loop-stmt.invariant }

pub statements::exec_all-returns-in-Continued : goal.statements::exec_all-returns-in-Continued
statements::exec_all-returns-in-Continued t c =
    let L = c.args.program.now.declared.limit in
    let core = seen_core c.args.core.now in
    let types = map seen_alias c.args.program.now.declared.types in
    let W = code core types L c.args.calls in
    let fr = frame L types c.args.routine.now c.args.types.now (store_of c.args.entry.now) in
    let M0 = meter_of c.args.meter.now in
    let all = c.args.stmts.now in
    let S0 = store_of c.args.store.items in
    let S = store_of c.loop-stmt.store.items in
    let N = meter_of c.loop-stmt.meter in
    let i = c.loop-stmt.stmt-index in
    let x = c.stmt-item.result in
    let K = meter_of c.exec.new.meter in
    let given = c.in_ok-exit.ensures.value ∙ ap (λ o. Done (seen_exit o) K) c.in-Continued.is in
    record { value = block_ends W fr all S0 M0 S N K i x (statements.Continued c.in-Continued.at (store_of c.in-Continued.next.items)) c.loop-stmt-test.true c.stmt-item.is given refl c.loop-stmt.invariant }

pub statements::exec_all-returns-in-Gave : goal.statements::exec_all-returns-in-Gave
statements::exec_all-returns-in-Gave t c =
    let L = c.args.program.now.declared.limit in
    let core = seen_core c.args.core.now in
    let types = map seen_alias c.args.program.now.declared.types in
    let W = code core types L c.args.calls in
    let fr = frame L types c.args.routine.now c.args.types.now (store_of c.args.entry.now) in
    let M0 = meter_of c.args.meter.now in
    let all = c.args.stmts.now in
    let S0 = store_of c.args.store.items in
    let S = store_of c.loop-stmt.store.items in
    let N = meter_of c.loop-stmt.meter in
    let i = c.loop-stmt.stmt-index in
    let x = c.stmt-item.result in
    let K = meter_of c.exec.new.meter in
    let given = c.in_ok-exit.ensures.value ∙ ap (λ o. Done (seen_exit o) K) c.in-Gave.is in
    record { value = block_ends W fr all S0 M0 S N K i x (statements.Gave (seen_option c.in-Gave.value)) c.loop-stmt-test.true c.stmt-item.is given refl c.loop-stmt.invariant }

pub statements::exec_all-loop-stmt-preserved : goal.statements::exec_all-loop-stmt-preserved
statements::exec_all-loop-stmt-preserved t c =
    let L = c.args.program.now.declared.limit in
    let core = seen_core c.args.core.now in
    let types = map seen_alias c.args.program.now.declared.types in
    let W = code core types L c.args.calls in
    let fr = frame L types c.args.routine.now c.args.types.now (store_of c.args.entry.now) in
    let M0 = meter_of c.args.meter.now in
    let all = c.args.stmts.now in
    let S0 = store_of c.args.store.items in
    let S = store_of c.loop-stmt.store.items in
    let N = meter_of c.loop-stmt.meter in
    let i = c.loop-stmt.stmt-index in
    let x = c.stmt-item.result in
    let K = meter_of c.exec.new.meter in
    let given = c.in_ok-exit.ensures.value ∙ ap (λ o. Done (seen_exit o) K) c.in-Went.is in
    block_turn W fr all S0 M0 S (store_of c.in-Went.next.items) N K i x c.loop-stmt-test.true c.stmt-item.is given c.loop-stmt.invariant

pub statements::exec_all-returns : goal.statements::exec_all-returns
statements::exec_all-returns t c =
    let L = c.args.program.now.declared.limit in
    let core = seen_core c.args.core.now in
    let types = map seen_alias c.args.program.now.declared.types in
    let W = code core types L c.args.calls in
    let fr = frame L types c.args.routine.now c.args.types.now (store_of c.args.entry.now) in
    let M0 = meter_of c.args.meter.now in
    let all = c.args.stmts.now in
    let S0 = store_of c.args.store.items in
    let S = store_of c.loop-stmt.store.items in
    let N = meter_of c.loop-stmt.meter in
    let i = c.loop-stmt.stmt-index in
    record { value = block_end W fr all S0 M0 S N i c.loop-stmt-test.false c.loop-stmt.invariant }

pub statements::rounds-loop-round-init : goal.statements::rounds-loop-round-init
statements::rounds-loop-round-init t c =
    let L = c.args.program.now.declared.limit in
    let core = seen_core c.args.core.now in
    let types = map seen_alias c.args.program.now.declared.types in
    let W = code core types L c.args.calls in
    let fr = frame L types c.args.routine.now c.args.types.now (store_of c.args.entry.now) in
    let M0 = meter_of c.args.meter.now in
    let A = c.args.at in
    let T = seen_expr c.args.test.now in
    let body = exec_all W fr (seen_block c.args.body.now) in
    let es = seen_exprs c.args.invariants.now in
    let n = suc c.args.meter.now.ticks in
    let S0 = store_of c.args.store.items in
    let none : n ≡ n - 0 = omega arith in
    ap (λ q. turning W fr A T body es q S0 M0) none

pub statements::rounds-returns-in_err-tick : goal.statements::rounds-returns-in_err-tick
statements::rounds-returns-in_err-tick t c =
    let L = c.args.program.now.declared.limit in
    let core = seen_core c.args.core.now in
    let types = map seen_alias c.args.program.now.declared.types in
    let W = code core types L c.args.calls in
    let fr = frame L types c.args.routine.now c.args.types.now (store_of c.args.entry.now) in
    let M0 = meter_of c.args.meter.now in
    let A = c.args.at in
    let T = seen_expr c.args.test.now in
    let body = exec_all W fr (seen_block c.args.body.now) in
    let es = seen_exprs c.args.invariants.now in
    let n = suc c.args.meter.now.ticks in
    let S0 = store_of c.args.store.items in
    let O = turning W fr A T body es n S0 M0 in
    let S = store_of c.loop-round.store.items in
    let N = meter_of c.loop-round.meter in
    let i = c.loop-round.round in
    let j = n - suc i in
    let more : n - i ≡ suc j = omega arith in
    let before = c.loop-round.invariant ∙ ap (λ q. turning W fr A T body es q S N) more in
    let K = meter_of c.tick.new.self in
    let e = c.in_err-tick.field-0.0 in
    record { value = refused seen_exit O K e c.from_residual.result (λ none. before ∙ round_unticked W fr A T body es j S N K e c.in_err-tick.ensures.value none) c.from_residual.ensures.1 }

pub statements::rounds-returns-in_err-value : goal.statements::rounds-returns-in_err-value
statements::rounds-returns-in_err-value t c =
    let L = c.args.program.now.declared.limit in
    let core = seen_core c.args.core.now in
    let types = map seen_alias c.args.program.now.declared.types in
    let W = code core types L c.args.calls in
    let fr = frame L types c.args.routine.now c.args.types.now (store_of c.args.entry.now) in
    let M0 = meter_of c.args.meter.now in
    let A = c.args.at in
    let T = seen_expr c.args.test.now in
    let body = exec_all W fr (seen_block c.args.body.now) in
    let es = seen_exprs c.args.invariants.now in
    let n = suc c.args.meter.now.ticks in
    let S0 = store_of c.args.store.items in
    let O = turning W fr A T body es n S0 M0 in
    let S = store_of c.loop-round.store.items in
    let N = meter_of c.loop-round.meter in
    let i = c.loop-round.round in
    let j = n - suc i in
    let more : n - i ≡ suc j = omega arith in
    let before = c.loop-round.invariant ∙ ap (λ q. turning W fr A T body es q S N) more in
    let M1 = meter_of c.tick.new.self in
    let H = c.in_ok-tick.ensures.value in
    let held = ap store_of c.as_slice-held.ensures.value in
    let K = meter_of c.value_of.new.meter in
    let evaluated = λ (q : Store). eval W true T q M1 in
    let e = c.in_err-value.field-0.0 in
    let r = c.from_residual-in_err-value.result in
    record {
      value = refused seen_exit O K e r (λ none. before ∙ round_untested W fr A T body es j S N M1 K e H (λ q. truth_stops W A T S M1 K e (λ p. ap evaluated (sym held) ∙ c.in_err-value.ensures.value p) q) none) c.from_residual-in_err-value.ensures.1;
    }

pub statements::rounds-returns-in_err-truth : goal.statements::rounds-returns-in_err-truth
statements::rounds-returns-in_err-truth t c =
    let L = c.args.program.now.declared.limit in
    let core = seen_core c.args.core.now in
    let types = map seen_alias c.args.program.now.declared.types in
    let W = code core types L c.args.calls in
    let fr = frame L types c.args.routine.now c.args.types.now (store_of c.args.entry.now) in
    let M0 = meter_of c.args.meter.now in
    let A = c.args.at in
    let T = seen_expr c.args.test.now in
    let body = exec_all W fr (seen_block c.args.body.now) in
    let es = seen_exprs c.args.invariants.now in
    let n = suc c.args.meter.now.ticks in
    let S0 = store_of c.args.store.items in
    let O = turning W fr A T body es n S0 M0 in
    let S = store_of c.loop-round.store.items in
    let N = meter_of c.loop-round.meter in
    let i = c.loop-round.round in
    let j = n - suc i in
    let more : n - i ≡ suc j = omega arith in
    let before = c.loop-round.invariant ∙ ap (λ q. turning W fr A T body es q S N) more in
    let M1 = meter_of c.tick.new.self in
    let H = c.in_ok-tick.ensures.value in
    let held = ap store_of c.as_slice-held.ensures.value in
    let K = meter_of c.value_of.new.meter in
    let evaluated = λ (q : Store). eval W true T q M1 in
    let v = seen c.in_ok-value.value in
    let given = ap evaluated (sym held) ∙ c.in_ok-value.ensures.value in
    let e = c.in_err-truth.field-0.0 in
    let r = c.from_residual-in_err-truth.result in
    record {
      value = refused seen_exit O K e r (λ none. before ∙ round_untested W fr A T body es j S N M1 K e H (λ q. truth_faults W A T S M1 K v e given c.in_err-truth.ensures.value) none) c.from_residual-in_err-truth.ensures.1;
    }

pub statements::rounds-returns-then-not-truth : goal.statements::rounds-returns-then-not-truth
statements::rounds-returns-then-not-truth t c =
    let L = c.args.program.now.declared.limit in
    let core = seen_core c.args.core.now in
    let types = map seen_alias c.args.program.now.declared.types in
    let W = code core types L c.args.calls in
    let fr = frame L types c.args.routine.now c.args.types.now (store_of c.args.entry.now) in
    let A = c.args.at in
    let T = seen_expr c.args.test.now in
    let body = exec_all W fr (seen_block c.args.body.now) in
    let es = seen_exprs c.args.invariants.now in
    let n = suc c.args.meter.now.ticks in
    let S = store_of c.loop-round.store.items in
    let N = meter_of c.loop-round.meter in
    let i = c.loop-round.round in
    let j = n - suc i in
    let more : n - i ≡ suc j = omega arith in
    let before = c.loop-round.invariant ∙ ap (λ q. turning W fr A T body es q S N) more in
    let M1 = meter_of c.tick.new.self in
    let H = c.in_ok-tick.ensures.value in
    let held = ap store_of c.as_slice-held.ensures.value in
    let K = meter_of c.value_of.new.meter in
    let evaluated = λ (q : Store). eval W true T q M1 in
    let v = seen c.in_ok-value.value in
    let given = ap evaluated (sym held) ∙ c.in_ok-value.ensures.value in
    let b = c.in_ok-truth.truth in
    let tested = truth_is W A T S M1 K v b given c.in_ok-truth.ensures.value in
    let begun = before ∙ round_begun W fr A T body es j S N M1 K b H tested in
    record { value = begun ∙ round_left W fr A T body es j S K b c.if-not-truth.true }

pub statements::rounds-returns-in_err-exit : goal.statements::rounds-returns-in_err-exit
statements::rounds-returns-in_err-exit t c =
    let L = c.args.program.now.declared.limit in
    let core = seen_core c.args.core.now in
    let types = map seen_alias c.args.program.now.declared.types in
    let W = code core types L c.args.calls in
    let fr = frame L types c.args.routine.now c.args.types.now (store_of c.args.entry.now) in
    let M0 = meter_of c.args.meter.now in
    let A = c.args.at in
    let T = seen_expr c.args.test.now in
    let body = exec_all W fr (seen_block c.args.body.now) in
    let es = seen_exprs c.args.invariants.now in
    let n = suc c.args.meter.now.ticks in
    let S0 = store_of c.args.store.items in
    let O = turning W fr A T body es n S0 M0 in
    let S = store_of c.loop-round.store.items in
    let N = meter_of c.loop-round.meter in
    let i = c.loop-round.round in
    let j = n - suc i in
    let more : n - i ≡ suc j = omega arith in
    let before = c.loop-round.invariant ∙ ap (λ q. turning W fr A T body es q S N) more in
    let M1 = meter_of c.tick.new.self in
    let H = c.in_ok-tick.ensures.value in
    let held = ap store_of c.as_slice-held.ensures.value in
    let K = meter_of c.value_of.new.meter in
    let evaluated = λ (q : Store). eval W true T q M1 in
    let v = seen c.in_ok-value.value in
    let given = ap evaluated (sym held) ∙ c.in_ok-value.ensures.value in
    let b = c.in_ok-truth.truth in
    let tested = truth_is W A T S M1 K v b given c.in_ok-truth.ensures.value in
    let begun = before ∙ round_begun W fr A T body es j S N M1 K b H tested in
    let J = meter_of c.exec_all.new.meter in
    let e = c.in_err-exit.field-0.0 in
    let r = c.from_residual-in_err-exit.result in
    record { value = refused seen_exit O J e r (λ none. begun ∙ round_unended W fr A T body es j S K J b e c.if-not-truth.false c.in_err-exit.ensures.value none) c.from_residual-in_err-exit.ensures.1 }

pub statements::rounds-returns-in_err-follows : goal.statements::rounds-returns-in_err-follows
statements::rounds-returns-in_err-follows t c =
    let L = c.args.program.now.declared.limit in
    let core = seen_core c.args.core.now in
    let types = map seen_alias c.args.program.now.declared.types in
    let W = code core types L c.args.calls in
    let fr = frame L types c.args.routine.now c.args.types.now (store_of c.args.entry.now) in
    let M0 = meter_of c.args.meter.now in
    let A = c.args.at in
    let T = seen_expr c.args.test.now in
    let body = exec_all W fr (seen_block c.args.body.now) in
    let es = seen_exprs c.args.invariants.now in
    let n = suc c.args.meter.now.ticks in
    let S0 = store_of c.args.store.items in
    let O = turning W fr A T body es n S0 M0 in
    let S = store_of c.loop-round.store.items in
    let N = meter_of c.loop-round.meter in
    let i = c.loop-round.round in
    let j = n - suc i in
    let more : n - i ≡ suc j = omega arith in
    let before = c.loop-round.invariant ∙ ap (λ q. turning W fr A T body es q S N) more in
    let M1 = meter_of c.tick.new.self in
    let H = c.in_ok-tick.ensures.value in
    let held = ap store_of c.as_slice-held.ensures.value in
    let K = meter_of c.value_of.new.meter in
    let evaluated = λ (q : Store). eval W true T q M1 in
    let v = seen c.in_ok-value.value in
    let given = ap evaluated (sym held) ∙ c.in_ok-value.ensures.value in
    let b = c.in_ok-truth.truth in
    let tested = truth_is W A T S M1 K v b given c.in_ok-truth.ensures.value in
    let begun = before ∙ round_begun W fr A T body es j S N M1 K b H tested in
    let J = meter_of c.exec_all.new.meter in
    let o = seen_exit c.in_ok-exit.exit in
    let ended = begun ∙ round_ended W fr A T body es j S K J b o c.if-not-truth.false c.in_ok-exit.ensures.value in
    let next = turning W fr A T body es j in
    let went = ended ∙ round_as core types L c.args.calls A es next o J in
    let Q = meter_of c.turned.new.meter in
    let e = c.in_err-follows.field-0.0 in
    let r = c.from_residual-in_err-follows.result in
    record { value = refused seen_exit O Q e r (λ none. went ∙ c.in_err-follows.ensures.value none next) c.from_residual-in_err-follows.ensures.1 }

pub statements::rounds-returns-in-Left : goal.statements::rounds-returns-in-Left
statements::rounds-returns-in-Left t c =
    let L = c.args.program.now.declared.limit in
    let core = seen_core c.args.core.now in
    let types = map seen_alias c.args.program.now.declared.types in
    let W = code core types L c.args.calls in
    let fr = frame L types c.args.routine.now c.args.types.now (store_of c.args.entry.now) in
    let A = c.args.at in
    let T = seen_expr c.args.test.now in
    let body = exec_all W fr (seen_block c.args.body.now) in
    let es = seen_exprs c.args.invariants.now in
    let n = suc c.args.meter.now.ticks in
    let S = store_of c.loop-round.store.items in
    let N = meter_of c.loop-round.meter in
    let i = c.loop-round.round in
    let j = n - suc i in
    let more : n - i ≡ suc j = omega arith in
    let before = c.loop-round.invariant ∙ ap (λ q. turning W fr A T body es q S N) more in
    let M1 = meter_of c.tick.new.self in
    let H = c.in_ok-tick.ensures.value in
    let held = ap store_of c.as_slice-held.ensures.value in
    let K = meter_of c.value_of.new.meter in
    let evaluated = λ (q : Store). eval W true T q M1 in
    let v = seen c.in_ok-value.value in
    let given = ap evaluated (sym held) ∙ c.in_ok-value.ensures.value in
    let b = c.in_ok-truth.truth in
    let tested = truth_is W A T S M1 K v b given c.in_ok-truth.ensures.value in
    let begun = before ∙ round_begun W fr A T body es j S N M1 K b H tested in
    let J = meter_of c.exec_all.new.meter in
    let o = seen_exit c.in_ok-exit.exit in
    let ended = begun ∙ round_ended W fr A T body es j S K J b o c.if-not-truth.false c.in_ok-exit.ensures.value in
    let next = turning W fr A T body es j in
    let went = ended ∙ round_as core types L c.args.calls A es next o J in
    let Q = meter_of c.turned.new.meter in
    let told = subst (λ x. GoesRound L types A es o J (Ok x) Q) c.in-Left.is c.in_ok-follows.ensures.value in
    record { value = went ∙ told next }

pub statements::rounds-loop-round-preserved : goal.statements::rounds-loop-round-preserved
statements::rounds-loop-round-preserved t c =
    let L = c.args.program.now.declared.limit in
    let core = seen_core c.args.core.now in
    let types = map seen_alias c.args.program.now.declared.types in
    let W = code core types L c.args.calls in
    let fr = frame L types c.args.routine.now c.args.types.now (store_of c.args.entry.now) in
    let A = c.args.at in
    let T = seen_expr c.args.test.now in
    let body = exec_all W fr (seen_block c.args.body.now) in
    let es = seen_exprs c.args.invariants.now in
    let n = suc c.args.meter.now.ticks in
    let S = store_of c.loop-round.store.items in
    let N = meter_of c.loop-round.meter in
    let i = c.loop-round.round in
    let j = n - suc i in
    let more : n - i ≡ suc j = omega arith in
    let before = c.loop-round.invariant ∙ ap (λ q. turning W fr A T body es q S N) more in
    let M1 = meter_of c.tick.new.self in
    let H = c.in_ok-tick.ensures.value in
    let held = ap store_of c.as_slice-held.ensures.value in
    let K = meter_of c.value_of.new.meter in
    let evaluated = λ (q : Store). eval W true T q M1 in
    let v = seen c.in_ok-value.value in
    let given = ap evaluated (sym held) ∙ c.in_ok-value.ensures.value in
    let b = c.in_ok-truth.truth in
    let tested = truth_is W A T S M1 K v b given c.in_ok-truth.ensures.value in
    let begun = before ∙ round_begun W fr A T body es j S N M1 K b H tested in
    let J = meter_of c.exec_all.new.meter in
    let o = seen_exit c.in_ok-exit.exit in
    let ended = begun ∙ round_ended W fr A T body es j S K J b o c.if-not-truth.false c.in_ok-exit.ensures.value in
    let next = turning W fr A T body es j in
    let went = ended ∙ round_as core types L c.args.calls A es next o J in
    let Q = meter_of c.turned.new.meter in
    let told = subst (λ x. GoesRound L types A es o J (Ok x) Q) c.in-Again.is c.in_ok-follows.ensures.value in
    let fewer : n - (i + 1) ≡ j = omega arith in
    went ∙ (told next ∙ ap (λ q. turning W fr A T body es q (store_of c.in-Again.next.items) Q) (sym fewer))

pub statements::rounds-returns : goal.statements::rounds-returns
statements::rounds-returns t c =
    let L = c.args.program.now.declared.limit in
    let core = seen_core c.args.core.now in
    let types = map seen_alias c.args.program.now.declared.types in
    let W = code core types L c.args.calls in
    let fr = frame L types c.args.routine.now c.args.types.now (store_of c.args.entry.now) in
    let A = c.args.at in
    let T = seen_expr c.args.test.now in
    let body = exec_all W fr (seen_block c.args.body.now) in
    let es = seen_exprs c.args.invariants.now in
    let n = suc c.args.meter.now.ticks in
    let S = store_of c.loop-round.store.items in
    let N = meter_of c.loop-round.meter in
    let i = c.loop-round.round in
    let none_left : n - i ≡ 0 = omega arith in
    record { value = λ none. c.loop-round.invariant ∙ ap (λ q. turning W fr A T body es q S N) none_left }

pub assignments::path_of-loop-step-init : goal.assignments::path_of-loop-step-init
assignments::path_of-loop-step-init t c =
    let L = c.args.program.now.declared.limit in
    let core = seen_core c.args.core.now in
    let types = map seen_alias c.args.program.now.declared.types in
    let W = code core types L c.args.calls in
    let M0 = meter_of c.args.meter.now in
    let S = store_of c.args.store.now in
    let all = c.args.path.now in
    let D = seen c.args.whole.now in
    path_begin W S all D (seen c.in_ok-part.part) M0 c.new-slots.result c.new-slots.ensures (ap seen c.in_ok-part.ensures.value)

pub assignments::path_of-returns-in_err-taken : goal.assignments::path_of-returns-in_err-taken
assignments::path_of-returns-in_err-taken t c =
    let L = c.args.program.now.declared.limit in
    let core = seen_core c.args.core.now in
    let types = map seen_alias c.args.program.now.declared.types in
    let W = code core types L c.args.calls in
    let M0 = meter_of c.args.meter.now in
    let S = store_of c.args.store.now in
    let all = c.args.path.now in
    let D = seen c.args.whole.now in
    let made = c.loop-step.slots in
    let part = seen c.loop-step.part in
    let N = meter_of c.loop-step.meter in
    let i = c.loop-step.step-index in
    let x = c.step-item.result in
    let K = meter_of c.stepped.new.meter in
    let e = c.in_err-taken.field-0.0 in
    let r = c.from_residual-in_err-taken.result in
    record { value = refused slots_in (statements.path_of W S (map seen_step all) D M0) K e r (λ none. path_stop W S all D M0 made part N K i x e c.loop-step-test.true c.step-item.is c.in_err-taken.ensures.value c.loop-step.invariant none) c.from_residual-in_err-taken.ensures.1 }

pub assignments::path_of-loop-step-preserved : goal.assignments::path_of-loop-step-preserved
assignments::path_of-loop-step-preserved t c =
    let L = c.args.program.now.declared.limit in
    let core = seen_core c.args.core.now in
    let types = map seen_alias c.args.program.now.declared.types in
    let W = code core types L c.args.calls in
    let M0 = meter_of c.args.meter.now in
    let S = store_of c.args.store.now in
    let all = c.args.path.now in
    let D = seen c.args.whole.now in
    let made = c.loop-step.slots in
    let part = seen c.loop-step.part in
    let N = meter_of c.loop-step.meter in
    let i = c.loop-step.step-index in
    let x = c.step-item.result in
    let K = meter_of c.stepped.new.meter in
    path_turn W S all D M0 made c.push.new.self part (seen c.in_ok-taken.taken.1) N K i x c.in_ok-taken.taken.0 c.loop-step-test.true c.step-item.is c.in_ok-taken.ensures.value c.in_ok-push.ensures.ok c.loop-step.invariant

pub assignments::path_of-returns : goal.assignments::path_of-returns
assignments::path_of-returns t c =
    let L = c.args.program.now.declared.limit in
    let core = seen_core c.args.core.now in
    let types = map seen_alias c.args.program.now.declared.types in
    let W = code core types L c.args.calls in
    let M0 = meter_of c.args.meter.now in
    let S = store_of c.args.store.now in
    let all = c.args.path.now in
    let D = seen c.args.whole.now in
    let made = c.loop-step.slots in
    let part = seen c.loop-step.part in
    let N = meter_of c.loop-step.meter in
    let i = c.loop-step.step-index in
    record { value = path_end W S all D M0 made part N i c.loop-step-test.false c.loop-step.invariant }

pub assignments::stepped-returns-in_err-number-in-Index : goal.assignments::stepped-returns-in_err-number-in-Index
assignments::stepped-returns-in_err-number-in-Index t c =
    let L = c.args.program.now.declared.limit in
    let core = seen_core c.args.core.now in
    let types = map seen_alias c.args.program.now.declared.types in
    let W = code core types L c.args.calls in
    let M0 = meter_of c.args.meter.now in
    let S = store_of c.args.store.now in
    let x = c.args.step.now in
    let D = seen c.args.part.now in
    let K = meter_of c.value_of.new.meter in
    let kind = c.in-Index.is in
    let index = c.in-Index.index in
    let e = c.in_err-number-in-Index.field-0.0 in
    record { value = step_refused W S (seen_step x) D M0 K e c.from_residual.result (λ none steps. index_stops W S x index D M0 K e kind c.in_err-number-in-Index.ensures.value none steps) c.from_residual.ensures.1 }

pub assignments::stepped-returns-in_err-item-in-Index : goal.assignments::stepped-returns-in_err-item-in-Index
assignments::stepped-returns-in_err-item-in-Index t c =
    let L = c.args.program.now.declared.limit in
    let core = seen_core c.args.core.now in
    let types = map seen_alias c.args.program.now.declared.types in
    let W = code core types L c.args.calls in
    let M0 = meter_of c.args.meter.now in
    let S = store_of c.args.store.now in
    let x = c.args.step.now in
    let D = seen c.args.part.now in
    let K = meter_of c.value_of.new.meter in
    let kind = c.in-Index.is in
    let index = c.in-Index.index in
    let e = c.in_err-item-in-Index.field-0.0 in
    let r = c.from_residual-in_err-item-in-Index.result in
    record { value = step_refused W S (seen_step x) D M0 K e r (λ none steps. index_wrong W S x index D (seen c.in_ok-number-in-Index.number) M0 K e kind c.in_ok-number-in-Index.ensures.value c.in_err-item-in-Index.ensures.value steps) c.from_residual-in_err-item-in-Index.ensures.1 }

pub assignments::stepped-returns-in_ok-next-in-Index : goal.assignments::stepped-returns-in_ok-next-in-Index
assignments::stepped-returns-in_ok-next-in-Index t c =
    let L = c.args.program.now.declared.limit in
    let core = seen_core c.args.core.now in
    let types = map seen_alias c.args.program.now.declared.types in
    let W = code core types L c.args.calls in
    let M0 = meter_of c.args.meter.now in
    let S = store_of c.args.store.now in
    let x = c.args.step.now in
    let D = seen c.args.part.now in
    let K = meter_of c.value_of.new.meter in
    let kind = c.in-Index.is in
    let index = c.in-Index.index in
    record { value = λ steps. index_steps W S x index D (seen c.in_ok-next-in-Index.next) (seen c.in_ok-number-in-Index.number) M0 K c.in_ok-item-in-Index.item kind c.in_ok-number-in-Index.ensures.value c.in_ok-item-in-Index.ensures.value c.in_ok-next-in-Index.ensures.value steps }

pub assignments::stepped-returns-in_err-next-in-Field : goal.assignments::stepped-returns-in_err-next-in-Field
assignments::stepped-returns-in_err-next-in-Field t c =
    let L = c.args.program.now.declared.limit in
    let core = seen_core c.args.core.now in
    let types = map seen_alias c.args.program.now.declared.types in
    let W = code core types L c.args.calls in
    let M0 = meter_of c.args.meter.now in
    let S = store_of c.args.store.now in
    let x = c.args.step.now in
    let D = seen c.args.part.now in
    let e = c.in_err-next-in-Field.field-0.0 in
    let r = c.from_residual-in_err-next-in-Field.result in
    record { value = step_refused W S (seen_step x) D M0 M0 e r (λ none steps. field_missing W S x c.in-Field.name D M0 e c.in-Field.is (c.in_err-next-in-Field.ensures.value M0) none steps) c.from_residual-in_err-next-in-Field.ensures.1 }

pub assignments::stepped-returns-in_ok-held-in-Field : goal.assignments::stepped-returns-in_ok-held-in-Field
assignments::stepped-returns-in_ok-held-in-Field t c =
    let L = c.args.program.now.declared.limit in
    let core = seen_core c.args.core.now in
    let types = map seen_alias c.args.program.now.declared.types in
    let W = code core types L c.args.calls in
    let M0 = meter_of c.args.meter.now in
    let S = store_of c.args.store.now in
    let x = c.args.step.now in
    let D = seen c.args.part.now in
    let found = c.in_ok-next-in-Field.ensures.value M0 in
    record { value = λ steps. field_steps W S x c.in-Field.name D (seen c.in_ok-next-in-Field.next) M0 c.in-Field.is found steps ∙ ap (λ n. statements.path_of W S steps (seen c.in_ok-next-in-Field.next) M0 >>= (λ slots. Done (operations.FieldSlot n ∷ slots))) (sym c.in_ok-held-in-Field.ensures.value) }

pub assignments::assigned-returns-in_err-made : goal.assignments::assigned-returns-in_err-made
assignments::assigned-returns-in_err-made t c =
    let L = c.args.program.now.declared.limit in
    let core = seen_core c.args.core.now in
    let types = map seen_alias c.args.program.now.declared.types in
    let W = code core types L c.args.calls in
    let fr = frame L types c.args.routine.now c.args.types.now (store_of c.args.entry.now) in
    let M0 = meter_of c.args.meter.now in
    let A = c.args.at in
    let x = c.args.number in
    let path = c.args.path.now in
    let V = seen_expr c.args.value.now in
    let S = store_of c.args.store.items in
    let held = ap store_of c.as_slice-held.ensures.value in
    let s = store_of c.as_slice-held.result.now in
    let O = statements.assigned W fr A x (map seen_step path) V S M0 in
    let begun = assigned_whole W fr A x path V S M0 c.if-path-eq0.true in
    let into = statements.stored fr A x (statements.type_at fr.types x) S in
    let K = meter_of c.value_of.new.meter in
    let e = c.in_err-made.field-0.0 in
    record {
      value = gives_as seen_exit O (eval W true V s M0 >>= into) c.from_residual.result K (begun ∙ ap (λ q. eval W true V q M0 >>= into) (sym held))
          (then_stops seen_exit (eval W true V s M0) into K e c.from_residual.result c.in_err-made.ensures.value c.from_residual.ensures.1);
    }

pub assignments::assigned-returns-then-path-eq0 : goal.assignments::assigned-returns-then-path-eq0
assignments::assigned-returns-then-path-eq0 t c =
    let L = c.args.program.now.declared.limit in
    let core = seen_core c.args.core.now in
    let types = map seen_alias c.args.program.now.declared.types in
    let W = code core types L c.args.calls in
    let fr = frame L types c.args.routine.now c.args.types.now (store_of c.args.entry.now) in
    let M0 = meter_of c.args.meter.now in
    let A = c.args.at in
    let x = c.args.number in
    let path = c.args.path.now in
    let V = seen_expr c.args.value.now in
    let S = store_of c.args.store.items in
    let held = ap store_of c.as_slice-held.ensures.value in
    let s = store_of c.as_slice-held.result.now in
    let O = statements.assigned W fr A x (map seen_step path) V S M0 in
    let begun = assigned_whole W fr A x path V S M0 c.if-path-eq0.true in
    let into = statements.stored fr A x (statements.type_at fr.types x) S in
    let K = meter_of c.value_of.new.meter in
    let r = c.stored_as.result in
    let J = meter_of c.stored_as.new.meter in
    record {
      value = gives_as seen_exit O (eval W true V s M0 >>= into) r J (begun ∙ ap (λ q. eval W true V q M0 >>= into) (sym held))
          (then_gives seen_exit (eval W true V s M0) into (seen c.in_ok-made.made) K r J c.in_ok-made.ensures.value c.stored_as.ensures.value);
    }

pub assignments::assigned-returns-in_err-whole : goal.assignments::assigned-returns-in_err-whole
assignments::assigned-returns-in_err-whole t c =
    let L = c.args.program.now.declared.limit in
    let core = seen_core c.args.core.now in
    let types = map seen_alias c.args.program.now.declared.types in
    let W = code core types L c.args.calls in
    let fr = frame L types c.args.routine.now c.args.types.now (store_of c.args.entry.now) in
    let M0 = meter_of c.args.meter.now in
    let A = c.args.at in
    let x = c.args.number in
    let path = c.args.path.now in
    let V = seen_expr c.args.value.now in
    let S = store_of c.args.store.items in
    let held = ap store_of c.as_slice-held.ensures.value in
    let O = statements.assigned W fr A x (map seen_step path) V S M0 in
    let begun = assigned_part W fr A x path V S M0 c.if-path-eq0.false in
    let next = along_path W fr A x path V S in
    let there = ap (λ q. needed A (spec.slot q x) Done M0) (sym held) in
    let e = c.in_err-whole.field-0.0 in
    let r = c.from_residual-in_err-whole.result in
    record { value = refused seen_exit O M0 e r (λ none. begun ∙ needed_stops A (spec.slot S x) next M0 e (there ∙ c.in_err-whole.ensures.value M0 none)) c.from_residual-in_err-whole.ensures.1 }

pub assignments::assigned-returns-in_err-slots : goal.assignments::assigned-returns-in_err-slots
assignments::assigned-returns-in_err-slots t c =
    let L = c.args.program.now.declared.limit in
    let core = seen_core c.args.core.now in
    let types = map seen_alias c.args.program.now.declared.types in
    let W = code core types L c.args.calls in
    let fr = frame L types c.args.routine.now c.args.types.now (store_of c.args.entry.now) in
    let M0 = meter_of c.args.meter.now in
    let A = c.args.at in
    let x = c.args.number in
    let path = c.args.path.now in
    let V = seen_expr c.args.value.now in
    let S = store_of c.args.store.items in
    let held = ap store_of c.as_slice-held.ensures.value in
    let O = statements.assigned W fr A x (map seen_step path) V S M0 in
    let begun = assigned_part W fr A x path V S M0 c.if-path-eq0.false in
    let next = along_path W fr A x path V S in
    let there = ap (λ q. needed A (spec.slot q x) Done M0) (sym held) in
    let D = seen c.in_ok-whole.whole in
    let found = begun ∙ needed_then A (spec.slot S x) D next M0 (there ∙ c.in_ok-whole.ensures.value M0) in
    let K = meter_of c.path_of.new.meter in
    let behind = behind_path W fr A x V S D in
    let walked = ap (λ q. statements.path_of W q (map seen_step path) D M0) (sym held) in
    let e = c.in_err-slots.field-0.0 in
    let r = c.from_residual-in_err-slots.result in
    record {
      value = gives_as seen_exit O (statements.path_of W S (map seen_step path) D M0 >>= behind) r K found
          (then_stops seen_exit (statements.path_of W S (map seen_step path) D M0) behind K e r (λ none. walked ∙ c.in_err-slots.ensures.value none) c.from_residual-in_err-slots.ensures.1);
    }

pub assignments::assigned-returns-in_err-value : goal.assignments::assigned-returns-in_err-value
assignments::assigned-returns-in_err-value t c =
    let L = c.args.program.now.declared.limit in
    let core = seen_core c.args.core.now in
    let types = map seen_alias c.args.program.now.declared.types in
    let W = code core types L c.args.calls in
    let fr = frame L types c.args.routine.now c.args.types.now (store_of c.args.entry.now) in
    let M0 = meter_of c.args.meter.now in
    let A = c.args.at in
    let x = c.args.number in
    let path = c.args.path.now in
    let V = seen_expr c.args.value.now in
    let S = store_of c.args.store.items in
    let held = ap store_of c.as_slice-held.ensures.value in
    let O = statements.assigned W fr A x (map seen_step path) V S M0 in
    let begun = assigned_part W fr A x path V S M0 c.if-path-eq0.false in
    let next = along_path W fr A x path V S in
    let there = ap (λ q. needed A (spec.slot q x) Done M0) (sym held) in
    let D = seen c.in_ok-whole.whole in
    let found = begun ∙ needed_then A (spec.slot S x) D next M0 (there ∙ c.in_ok-whole.ensures.value M0) in
    let K = meter_of c.path_of.new.meter in
    let behind = behind_path W fr A x V S D in
    let walked = ap (λ q. statements.path_of W q (map seen_step path) D M0) (sym held) in
    let slots = slots_in c.in_ok-slots.slots in
    let gone = found ∙ then_is (statements.path_of W S (map seen_step path) D M0) behind slots K (walked ∙ c.in_ok-slots.ensures.value) in
    let into = λ (u : datum.Datum). statements.stored fr A x (statements.type_at fr.types x) S (operations.updated D slots u) in
    let valued = ap (λ q. eval W true V q K) (sym held) in
    let J = meter_of c.value_of-2.new.meter in
    let e = c.in_err-value.field-0.0 in
    let r = c.from_residual-in_err-value.result in
    record {
      value = gives_as seen_exit O (eval W true V S K >>= into) r J gone
          (then_stops seen_exit (eval W true V S K) into J e r (λ none. valued ∙ c.in_err-value.ensures.value none) c.from_residual-in_err-value.ensures.1);
    }

pub assignments::assigned-returns : goal.assignments::assigned-returns
assignments::assigned-returns t c =
    let L = c.args.program.now.declared.limit in
    let core = seen_core c.args.core.now in
    let types = map seen_alias c.args.program.now.declared.types in
    let W = code core types L c.args.calls in
    let fr = frame L types c.args.routine.now c.args.types.now (store_of c.args.entry.now) in
    let M0 = meter_of c.args.meter.now in
    let A = c.args.at in
    let x = c.args.number in
    let path = c.args.path.now in
    let V = seen_expr c.args.value.now in
    let S = store_of c.args.store.items in
    let held = ap store_of c.as_slice-held.ensures.value in
    let O = statements.assigned W fr A x (map seen_step path) V S M0 in
    let begun = assigned_part W fr A x path V S M0 c.if-path-eq0.false in
    let next = along_path W fr A x path V S in
    let there = ap (λ q. needed A (spec.slot q x) Done M0) (sym held) in
    let D = seen c.in_ok-whole.whole in
    let found = begun ∙ needed_then A (spec.slot S x) D next M0 (there ∙ c.in_ok-whole.ensures.value M0) in
    let K = meter_of c.path_of.new.meter in
    let behind = behind_path W fr A x V S D in
    let walked = ap (λ q. statements.path_of W q (map seen_step path) D M0) (sym held) in
    let slots = slots_in c.in_ok-slots.slots in
    let gone = found ∙ then_is (statements.path_of W S (map seen_step path) D M0) behind slots K (walked ∙ c.in_ok-slots.ensures.value) in
    let into = λ (u : datum.Datum). statements.stored fr A x (statements.type_at fr.types x) S (operations.updated D slots u) in
    let valued = ap (λ q. eval W true V q K) (sym held) in
    let J = meter_of c.value_of-2.new.meter in
    let r = c.stored_as-2.result in
    let Q = meter_of c.stored_as-2.new.meter in
    let u = seen c.in_ok-value.value in
    let made = c.in_ok-made-2.ensures.value ∙ ap (λ l. operations.updated D (slots_in l) u) c.as_slice-slots.ensures in
    let T = statements.type_at fr.types x in
    record {
      value = gives_as seen_exit O (eval W true V S K >>= into) r Q gone
          (then_gives seen_exit (eval W true V S K) into u J r Q (valued ∙ c.in_ok-value.ensures.value)
          (gives_as seen_exit (into u J) (statements.stored fr A x T S (seen c.in_ok-made-2.made) J) r Q (ap (λ d. statements.stored fr A x T S d J) (sym made)) c.stored_as-2.ensures.value));
    }

pub calls::run-returns-then-calls-eq0 : goal.calls::run-returns-then-calls-eq0
calls::run-returns-then-calls-eq0 t c =
    let L = c.args.program.now.declared.limit in
    let core = seen_core c.args.core.now in
    let f = c.args.number in
    let A = c.args.at in
    let vs = map seen c.args.args.now in
    let M0 = meter_of c.args.meter.now in
    record { value = λ none. ap (λ q. spec_run here (Some L) core q f A vs M0) c.if-calls-eq0.true }

pub calls::run-returns-in_err-tick : goal.calls::run-returns-in_err-tick
calls::run-returns-in_err-tick t c =
    let L = c.args.program.now.declared.limit in
    let core = seen_core c.args.core.now in
    let n = c.args.calls in
    let f = c.args.number in
    let A = c.args.at in
    let vs = map seen c.args.args.now in
    let M0 = meter_of c.args.meter.now in
    let O = spec_run here (Some L) core n f A vs M0 in
    let j = n - 1 in
    let more : n ≡ suc j = omega arith in
    let K = meter_of c.tick.new.self in
    let e = c.in_err-tick.field-0.0 in
    record { value = refused seen_option O K e c.from_residual.result (λ none. run_stops core L n j f A vs M0 K e more c.in_err-tick.ensures.value none) c.from_residual.ensures.1 }

pub calls::run-returns-in_err-entry-in-Some : goal.calls::run-returns-in_err-entry-in-Some
calls::run-returns-in_err-entry-in-Some t c =
    let L = c.args.program.now.declared.limit in
    let core = seen_core c.args.core.now in
    let types = map seen_alias c.args.program.now.declared.types in
    let n = c.args.calls in
    let f = c.args.number in
    let A = c.args.at in
    let vs = map seen c.args.args.now in
    let M0 = meter_of c.args.meter.now in
    let O = spec_run here (Some L) core n f A vs M0 in
    let j = n - 1 in
    let more : n ≡ suc j = omega arith in
    let M1 = meter_of c.tick.new.self in
    let H = c.in_ok-tick.ensures.value in
    let routine = c.in-Some.routine.now in
    let R = seen_routine routine in
    let there = ap (λ l. callee (tree.routines_of (map seen_decl l)) f) (sym c.as_slice-decls.ensures) ∙ c.in-Some.ensures.value in
    let body = body_of core types L j R vs in
    let called = run_declared core types L n j f A vs M0 M1 R more c.requires H there in
    let K = meter_of c.entered.new.meter in
    let e = c.in_err-entry-in-Some.field-0.0 in
    let r = c.from_residual-in_err-entry-in-Some.result in
    record { value = refused seen_option O K e r (λ none. called ∙ c.in_err-entry-in-Some.ensures.value none body) c.from_residual-in_err-entry-in-Some.ensures.1 }

pub calls::run-returns-in_err-exit-in-Some : goal.calls::run-returns-in_err-exit-in-Some
calls::run-returns-in_err-exit-in-Some t c =
    let L = c.args.program.now.declared.limit in
    let core = seen_core c.args.core.now in
    let types = map seen_alias c.args.program.now.declared.types in
    let n = c.args.calls in
    let f = c.args.number in
    let A = c.args.at in
    let vs = map seen c.args.args.now in
    let M0 = meter_of c.args.meter.now in
    let O = spec_run here (Some L) core n f A vs M0 in
    let j = n - 1 in
    let more : n ≡ suc j = omega arith in
    let M1 = meter_of c.tick.new.self in
    let H = c.in_ok-tick.ensures.value in
    let routine = c.in-Some.routine.now in
    let R = seen_routine routine in
    let there = ap (λ l. callee (tree.routines_of (map seen_decl l)) f) (sym c.as_slice-decls.ensures) ∙ c.in-Some.ensures.value in
    let body = body_of core types L j R vs in
    let called = run_declared core types L n j f A vs M0 M1 R more c.requires H there in
    let K = meter_of c.entered.new.meter in
    let entered = called ∙ c.in_ok-entry-in-Some.ensures.value body in
    let ts = c.as_slice-types.result.now in
    let en = store_of c.as_slice-entry.result.now in
    let types_are = ap (λ l. map seen_ty l) c.as_slice-types.ensures ∙ c.in_ok-types-in-Some.ensures.value in
    let entry_is = ap store_of c.as_slice-entry.ensures.value ∙ c.in_ok-entry-in-Some.ensures.store in
    let ss = c.as_slice-body.result.now in
    let s = store_of c.in_ok-store-in-Some.store.items in
    let W = code core types L j in
    let fr = frame L types routine ts en in
    let ran = entered ∙ body_is core types L j routine ts en s ss vs K types_are entry_is c.in_ok-store-in-Some.ensures.value c.as_slice-body.ensures in
    let E = exec_all W fr (seen_block ss) s K in
    let after = result_of W fr routine.at in
    let J = meter_of c.exec_all.new.meter in
    let e = c.in_err-exit-in-Some.field-0.0 in
    let r = c.from_residual-in_err-exit-in-Some.result in
    record { value = gives_as seen_option O (E >>= after) r J ran (then_stops seen_option E after J e r c.in_err-exit-in-Some.ensures.value c.from_residual-in_err-exit-in-Some.ensures.1) }

pub calls::run-returns-in_ok-exit-in-Some : goal.calls::run-returns-in_ok-exit-in-Some
calls::run-returns-in_ok-exit-in-Some t c =
    let L = c.args.program.now.declared.limit in
    let core = seen_core c.args.core.now in
    let types = map seen_alias c.args.program.now.declared.types in
    let n = c.args.calls in
    let f = c.args.number in
    let A = c.args.at in
    let vs = map seen c.args.args.now in
    let M0 = meter_of c.args.meter.now in
    let O = spec_run here (Some L) core n f A vs M0 in
    let j = n - 1 in
    let more : n ≡ suc j = omega arith in
    let M1 = meter_of c.tick.new.self in
    let H = c.in_ok-tick.ensures.value in
    let routine = c.in-Some.routine.now in
    let R = seen_routine routine in
    let there = ap (λ l. callee (tree.routines_of (map seen_decl l)) f) (sym c.as_slice-decls.ensures) ∙ c.in-Some.ensures.value in
    let body = body_of core types L j R vs in
    let called = run_declared core types L n j f A vs M0 M1 R more c.requires H there in
    let K = meter_of c.entered.new.meter in
    let entered = called ∙ c.in_ok-entry-in-Some.ensures.value body in
    let ts = c.as_slice-types.result.now in
    let en = store_of c.as_slice-entry.result.now in
    let types_are = ap (λ l. map seen_ty l) c.as_slice-types.ensures ∙ c.in_ok-types-in-Some.ensures.value in
    let entry_is = ap store_of c.as_slice-entry.ensures.value ∙ c.in_ok-entry-in-Some.ensures.store in
    let ss = c.as_slice-body.result.now in
    let s = store_of c.in_ok-store-in-Some.store.items in
    let W = code core types L j in
    let fr = frame L types routine ts en in
    let ran = entered ∙ body_is core types L j routine ts en s ss vs K types_are entry_is c.in_ok-store-in-Some.ensures.value c.as_slice-body.ensures in
    let E = exec_all W fr (seen_block ss) s K in
    let after = result_of W fr routine.at in
    let J = meter_of c.exec_all.new.meter in
    let r = c.result_of.result in
    let Q = meter_of c.result_of.new.meter in
    let x = seen_exit c.in_ok-exit-in-Some.exit in
    record {
      value = gives_as seen_option O (E >>= after) r Q ran
          (then_gives seen_option E after x J r Q c.in_ok-exit-in-Some.ensures.value (gives_as seen_option (after x J) (result_of (clause_setting here (Some L) types) fr routine.at x J) r Q (result_as core types L j fr routine.at x J) c.result_of.ensures.value));
    }

pub calls::run-returns-in-None : goal.calls::run-returns-in-None
calls::run-returns-in-None t c =
    let L = c.args.program.now.declared.limit in
    let core = seen_core c.args.core.now in
    let types = map seen_alias c.args.program.now.declared.types in
    let n = c.args.calls in
    let f = c.args.number in
    let A = c.args.at in
    let vs = map seen c.args.args.now in
    let M0 = meter_of c.args.meter.now in
    let O = spec_run here (Some L) core n f A vs M0 in
    let j = n - 1 in
    let more : n ≡ suc j = omega arith in
    let M1 = meter_of c.tick.new.self in
    let H = c.in_ok-tick.ensures.value in
    let r = c.built_in.result in
    let Q = meter_of c.built_in.new.meter in
    let behind = subst (λ l. length (tree.routines_of (map seen_decl l)) ≤ f) c.as_slice-decls.ensures c.in-None.ensures.value in
    record {
      value = gives_as seen_option O (built_in_call L (callee (tree.routines_of core) f) A vs M1) r Q (run_built_in core types L n j f A vs M0 M1 more c.requires H behind) c.built_in.ensures.value;
    }

pub statements::exec-returns-in_err-tick : goal.statements::exec-returns-in_err-tick
statements::exec-returns-in_err-tick t c =
    let L = c.args.program.now.declared.limit in
    let core = seen_core c.args.core.now in
    let types = map seen_alias c.args.program.now.declared.types in
    let W = code core types L c.args.calls in
    let fr = frame L types c.args.routine.now c.args.types.now (store_of c.args.entry.now) in
    let M0 = meter_of c.args.meter.now in
    let K = meter_of c.tick.new.self in
    let S = store_of c.args.store.items in
    let X = seen_stmt c.args.stmt.now in
    let e = c.in_err-tick.field-0.0 in
    record { value = refused seen_exit (statements.exec W fr X S M0) K e c.from_residual.result (λ none. exec_stops W fr X S M0 K e c.in_err-tick.ensures.value none) c.from_residual.ensures.1 }

pub statements::exec-returns-in-Break : goal.statements::exec-returns-in-Break
statements::exec-returns-in-Break t c =
    let L = c.args.program.now.declared.limit in
    let core = seen_core c.args.core.now in
    let types = map seen_alias c.args.program.now.declared.types in
    let W = code core types L c.args.calls in
    let fr = frame L types c.args.routine.now c.args.types.now (store_of c.args.entry.now) in
    let S = store_of c.args.store.items in
    let M0 = meter_of c.args.meter.now in
    let M1 = meter_of c.tick.new.self in
    let E = c.args.stmt.now in
    let H = c.in_ok-tick.ensures.value in
    record { value = ap (λ x. statements.exec W fr x S M0) (break_of E c.in-Break.is) ∙ spent true (λ m. Done (statements.Broke S) m) M0 M1 H }

pub statements::exec-returns-in-Continue : goal.statements::exec-returns-in-Continue
statements::exec-returns-in-Continue t c =
    let L = c.args.program.now.declared.limit in
    let core = seen_core c.args.core.now in
    let types = map seen_alias c.args.program.now.declared.types in
    let W = code core types L c.args.calls in
    let fr = frame L types c.args.routine.now c.args.types.now (store_of c.args.entry.now) in
    let S = store_of c.args.store.items in
    let M0 = meter_of c.args.meter.now in
    let M1 = meter_of c.tick.new.self in
    let A = c.args.stmt.now.at in
    let E = c.args.stmt.now in
    let H = c.in_ok-tick.ensures.value in
    record { value = ap (λ x. statements.exec W fr x S M0) (continue_of E c.in-Continue.is) ∙ spent true (λ m. Done (statements.Continued A S) m) M0 M1 H }

pub statements::exec-returns-in-Skip : goal.statements::exec-returns-in-Skip
statements::exec-returns-in-Skip t c =
    let L = c.args.program.now.declared.limit in
    let core = seen_core c.args.core.now in
    let types = map seen_alias c.args.program.now.declared.types in
    let W = code core types L c.args.calls in
    let fr = frame L types c.args.routine.now c.args.types.now (store_of c.args.entry.now) in
    let S = store_of c.args.store.items in
    let M0 = meter_of c.args.meter.now in
    let M1 = meter_of c.tick.new.self in
    let E = c.args.stmt.now in
    let H = c.in_ok-tick.ensures.value in
    record { value = ap (λ x. statements.exec W fr x S M0) (skip_of E c.in-Skip.is) ∙ spent true (λ m. Done (statements.Went S) m) M0 M1 H }

pub statements::exec-returns-in-Fail : goal.statements::exec-returns-in-Fail
statements::exec-returns-in-Fail t c =
    let L = c.args.program.now.declared.limit in
    let core = seen_core c.args.core.now in
    let types = map seen_alias c.args.program.now.declared.types in
    let W = code core types L c.args.calls in
    let fr = frame L types c.args.routine.now c.args.types.now (store_of c.args.entry.now) in
    let S = store_of c.args.store.items in
    let M0 = meter_of c.args.meter.now in
    let M1 = meter_of c.tick.new.self in
    let A = c.args.stmt.now.at in
    let E = c.args.stmt.now in
    let H = c.in_ok-tick.ensures.value in
    record { value = λ none. ap (λ x. statements.exec W fr x S M0) (fail_of E c.in-Fail.is) ∙ spent true (λ m. Fault Fail A m) M0 M1 H }

pub statements::exec-returns-in_err-value-in-Some : goal.statements::exec-returns-in_err-value-in-Some
statements::exec-returns-in_err-value-in-Some t c =
    let L = c.args.program.now.declared.limit in
    let core = seen_core c.args.core.now in
    let types = map seen_alias c.args.program.now.declared.types in
    let W = code core types L c.args.calls in
    let fr = frame L types c.args.routine.now c.args.types.now (store_of c.args.entry.now) in
    let S = store_of c.args.store.items in
    let M0 = meter_of c.args.meter.now in
    let M1 = meter_of c.tick.new.self in
    let A = c.args.stmt.now.at in
    let E = c.args.stmt.now in
    let X = seen_stmt c.args.stmt.now in
    let H = c.in_ok-tick.ensures.value in
    let T = seen_ty c.in-Declare.ty in
    let x = c.in-Declare.variable in
    let v = seen_expr c.in-Some.expr in
    let is = declare_of E c.in-Declare.ty x c.in-Declare.value c.in-Declare.is ∙ ap (λ o. tree.DeclareStmt A T x (seen_expr_option o)) c.in-Some.is in
    let into = statements.stored fr A x T S in
    let go = λ (m : Meter). eval W true v S m >>= into in
    let K = meter_of c.value_of.new.meter in
    let held = ap (λ s. eval W true v s M1) (sym (ap store_of c.as_slice-held.ensures.value)) in
    let e = c.in_err-value-in-Some.field-0.0 in
    let r = c.from_residual-in_err-value-in-Some.result in
    record {
      value = as_stmt W fr X (tree.DeclareStmt A T x (Some v)) S M0 seen_exit r K is
          (after_spend seen_exit true go M0 M1 r K H (then_stops seen_exit (eval W true v S M1) into K e r (λ none. held ∙ c.in_err-value-in-Some.ensures.value none) c.from_residual-in_err-value-in-Some.ensures.1));
    }

pub statements::exec-returns-in-Declare : goal.statements::exec-returns-in-Declare
statements::exec-returns-in-Declare t c =
    let L = c.args.program.now.declared.limit in
    let core = seen_core c.args.core.now in
    let types = map seen_alias c.args.program.now.declared.types in
    let W = code core types L c.args.calls in
    let fr = frame L types c.args.routine.now c.args.types.now (store_of c.args.entry.now) in
    let S = store_of c.args.store.items in
    let M0 = meter_of c.args.meter.now in
    let M1 = meter_of c.tick.new.self in
    let A = c.args.stmt.now.at in
    let E = c.args.stmt.now in
    let X = seen_stmt c.args.stmt.now in
    let H = c.in_ok-tick.ensures.value in
    let T = seen_ty c.in-Declare.ty in
    let x = c.in-Declare.variable in
    let v = seen_expr c.in-Some.expr in
    let is = declare_of E c.in-Declare.ty x c.in-Declare.value c.in-Declare.is ∙ ap (λ o. tree.DeclareStmt A T x (seen_expr_option o)) c.in-Some.is in
    let into = statements.stored fr A x T S in
    let go = λ (m : Meter). eval W true v S m >>= into in
    let K = meter_of c.value_of.new.meter in
    let held = ap (λ s. eval W true v s M1) (sym (ap store_of c.as_slice-held.ensures.value)) in
    let r = c.stored.result in
    let J = meter_of c.stored.new.meter in
    record {
      value = as_stmt W fr X (tree.DeclareStmt A T x (Some v)) S M0 seen_exit r J is
          (after_spend seen_exit true go M0 M1 r J H (then_gives seen_exit (eval W true v S M1) into (seen c.in_ok-value-in-Some.value) K r J (held ∙ c.in_ok-value-in-Some.ensures.value) c.stored.ensures.value));
    }

pub statements::exec-returns-in-Assign : goal.statements::exec-returns-in-Assign
statements::exec-returns-in-Assign t c =
    let L = c.args.program.now.declared.limit in
    let core = seen_core c.args.core.now in
    let types = map seen_alias c.args.program.now.declared.types in
    let W = code core types L c.args.calls in
    let fr = frame L types c.args.routine.now c.args.types.now (store_of c.args.entry.now) in
    let S = store_of c.args.store.items in
    let M0 = meter_of c.args.meter.now in
    let M1 = meter_of c.tick.new.self in
    let A = c.args.stmt.now.at in
    let E = c.args.stmt.now in
    let X = seen_stmt c.args.stmt.now in
    let H = c.in_ok-tick.ensures.value in
    let x = c.in-Assign.variable in
    let path = c.as_slice-path.result.now in
    let v = seen_expr c.in-Assign.value in
    let r = c.assigned.result in
    let J = meter_of c.assigned.new.meter in
    record {
      value = as_stmt W fr X (tree.AssignStmt A x (map seen_step path) v) S M0 seen_exit r J (assign_of E x c.in-Assign.path path c.in-Assign.value c.in-Assign.is c.as_slice-path.ensures)
          (after_spend seen_exit true (statements.assigned W fr A x (map seen_step path) v S) M0 M1 r J H c.assigned.ensures.value);
    }

pub statements::exec-returns-in_err-values-in-Call : goal.statements::exec-returns-in_err-values-in-Call
statements::exec-returns-in_err-values-in-Call t c =
    let L = c.args.program.now.declared.limit in
    let core = seen_core c.args.core.now in
    let types = map seen_alias c.args.program.now.declared.types in
    let W = code core types L c.args.calls in
    let fr = frame L types c.args.routine.now c.args.types.now (store_of c.args.entry.now) in
    let S = store_of c.args.store.items in
    let M0 = meter_of c.args.meter.now in
    let M1 = meter_of c.tick.new.self in
    let A = c.args.stmt.now.at in
    let E = c.args.stmt.now in
    let X = seen_stmt c.args.stmt.now in
    let H = c.in_ok-tick.ensures.value in
    let f = c.in-Call.number in
    let es = tree.exprs_of (seen_exprs c.as_slice-args.result.now) in
    let is = call_stmt_of E f c.in-Call.args c.as_slice-args.result.now c.in-Call.is c.as_slice-args.ensures in
    let ends = λ (v : Option datum.Datum) (m : Meter). Done (statements.Went S) m in
    let behind = λ (vs : List datum.Datum) (k : Meter). W.call f A vs k >>= ends in
    let go = λ (m : Meter). spec.eval_all W true es S m >>= behind in
    let K = meter_of c.values_of.new.meter in
    let held = ap (λ s. spec.eval_all W true es s M1) (sym (ap store_of c.as_slice-held-in-Call.ensures.value)) in
    let e = c.in_err-values-in-Call.field-0.0 in
    let r = c.from_residual-in_err-values-in-Call.result in
    record {
      value = as_stmt W fr X (tree.CallStmt A f es) S M0 seen_exit r K is
          (after_spend seen_exit true go M0 M1 r K H (then_stops seen_exit (spec.eval_all W true es S M1) behind K e r (λ none. held ∙ c.in_err-values-in-Call.ensures.value none) c.from_residual-in_err-values-in-Call.ensures.1));
    }

pub statements::exec-returns-in_err-_given-in-Call : goal.statements::exec-returns-in_err-_given-in-Call
statements::exec-returns-in_err-_given-in-Call t c =
    let L = c.args.program.now.declared.limit in
    let core = seen_core c.args.core.now in
    let types = map seen_alias c.args.program.now.declared.types in
    let W = code core types L c.args.calls in
    let fr = frame L types c.args.routine.now c.args.types.now (store_of c.args.entry.now) in
    let S = store_of c.args.store.items in
    let M0 = meter_of c.args.meter.now in
    let M1 = meter_of c.tick.new.self in
    let A = c.args.stmt.now.at in
    let E = c.args.stmt.now in
    let X = seen_stmt c.args.stmt.now in
    let H = c.in_ok-tick.ensures.value in
    let f = c.in-Call.number in
    let es = tree.exprs_of (seen_exprs c.as_slice-args.result.now) in
    let is = call_stmt_of E f c.in-Call.args c.as_slice-args.result.now c.in-Call.is c.as_slice-args.ensures in
    let ends = λ (v : Option datum.Datum) (m : Meter). Done (statements.Went S) m in
    let behind = λ (vs : List datum.Datum) (k : Meter). W.call f A vs k >>= ends in
    let go = λ (m : Meter). spec.eval_all W true es S m >>= behind in
    let K = meter_of c.values_of.new.meter in
    let held = ap (λ s. spec.eval_all W true es s M1) (sym (ap store_of c.as_slice-held-in-Call.ensures.value)) in
    let vs = map seen c.in_ok-values-in-Call.values in
    let J = meter_of c.run.new.meter in
    let called = ap (λ l. W.call f A (map seen l) K) (sym c.as_slice-values.ensures) in
    let B = W.call f A (map seen c.as_slice-values.result.now) K in
    let given = held ∙ c.in_ok-values-in-Call.ensures.value in
    let e = c.in_err-_given-in-Call.field-0.0 in
    let r = c.from_residual-in_err-_given-in-Call.result in
    record {
      value = as_stmt W fr X (tree.CallStmt A f es) S M0 seen_exit r J is
          (after_spend seen_exit true go M0 M1 r J H
          (then_gives seen_exit (spec.eval_all W true es S M1) behind vs K r J given
          (gives_as seen_exit (behind vs K) (B >>= ends) r J (ap (λ o. o >>= ends) called) (then_stops seen_exit B ends J e r c.in_err-_given-in-Call.ensures.value c.from_residual-in_err-_given-in-Call.ensures.1))));
    }

pub statements::exec-returns-in-Call : goal.statements::exec-returns-in-Call
statements::exec-returns-in-Call t c =
    let L = c.args.program.now.declared.limit in
    let core = seen_core c.args.core.now in
    let types = map seen_alias c.args.program.now.declared.types in
    let W = code core types L c.args.calls in
    let fr = frame L types c.args.routine.now c.args.types.now (store_of c.args.entry.now) in
    let S = store_of c.args.store.items in
    let M0 = meter_of c.args.meter.now in
    let M1 = meter_of c.tick.new.self in
    let A = c.args.stmt.now.at in
    let E = c.args.stmt.now in
    let H = c.in_ok-tick.ensures.value in
    let f = c.in-Call.number in
    let es = tree.exprs_of (seen_exprs c.as_slice-args.result.now) in
    let is = call_stmt_of E f c.in-Call.args c.as_slice-args.result.now c.in-Call.is c.as_slice-args.ensures in
    let ends = λ (v : Option datum.Datum) (m : Meter). Done (statements.Went S) m in
    let behind = λ (vs : List datum.Datum) (k : Meter). W.call f A vs k >>= ends in
    let go = λ (m : Meter). spec.eval_all W true es S m >>= behind in
    let K = meter_of c.values_of.new.meter in
    let held = ap (λ s. spec.eval_all W true es s M1) (sym (ap store_of c.as_slice-held-in-Call.ensures.value)) in
    let vs = map seen c.in_ok-values-in-Call.values in
    let J = meter_of c.run.new.meter in
    let called = ap (λ l. W.call f A (map seen l) K) (sym c.as_slice-values.ensures) in
    let B = W.call f A (map seen c.as_slice-values.result.now) K in
    let given = held ∙ c.in_ok-values-in-Call.ensures.value in
    let g = seen_option c.in_ok-_given-in-Call._given in
    record {
      value = ap (λ y. statements.exec W fr y S M0) is
          ∙ (spent true go M0 M1 H
          ∙ (then_is (spec.eval_all W true es S M1) behind vs K given ∙ (ap (λ o. o >>= ends) called ∙ then_is B ends g J c.in_ok-_given-in-Call.ensures.value)));
    }

pub statements::exec-returns-in-None-value : goal.statements::exec-returns-in-None-value
statements::exec-returns-in-None-value t c =
    let L = c.args.program.now.declared.limit in
    let core = seen_core c.args.core.now in
    let types = map seen_alias c.args.program.now.declared.types in
    let W = code core types L c.args.calls in
    let fr = frame L types c.args.routine.now c.args.types.now (store_of c.args.entry.now) in
    let S = store_of c.args.store.items in
    let M0 = meter_of c.args.meter.now in
    let M1 = meter_of c.tick.new.self in
    let A = c.args.stmt.now.at in
    let E = c.args.stmt.now in
    let H = c.in_ok-tick.ensures.value in
    let left = statements.leave W fr A fr.result in
    let is = return_of E c.in-Return.value c.in-Return.is ∙ ap (λ o. tree.ReturnStmt A (seen_expr_option o)) c.in-None-value.is in
    let same = leave_as core types L c.args.calls fr A fr.result None M1 in
    record { value = ap (λ y. statements.exec W fr y S M0) is ∙ (spent true (left None) M0 M1 H ∙ (same ∙ c.in_ok-given-in-None-value.ensures.value)) }

pub statements::exec-returns-in_err-value-in-Some-value : goal.statements::exec-returns-in_err-value-in-Some-value
statements::exec-returns-in_err-value-in-Some-value t c =
    let L = c.args.program.now.declared.limit in
    let core = seen_core c.args.core.now in
    let types = map seen_alias c.args.program.now.declared.types in
    let W = code core types L c.args.calls in
    let fr = frame L types c.args.routine.now c.args.types.now (store_of c.args.entry.now) in
    let S = store_of c.args.store.items in
    let M0 = meter_of c.args.meter.now in
    let M1 = meter_of c.tick.new.self in
    let A = c.args.stmt.now.at in
    let E = c.args.stmt.now in
    let X = seen_stmt c.args.stmt.now in
    let H = c.in_ok-tick.ensures.value in
    let left = statements.leave W fr A fr.result in
    let v = seen_expr c.in-Some-value.expr in
    let is = return_of E c.in-Return.value c.in-Return.is ∙ ap (λ o. tree.ReturnStmt A (seen_expr_option o)) c.in-Some-value.is in
    let behind = λ (d : datum.Datum). left (Some d) in
    let go = λ (m : Meter). eval W true v S m >>= behind in
    let K = meter_of c.value_of-in-Some-value.new.meter in
    let held = ap (λ s. eval W true v s M1) (sym (ap store_of c.as_slice-held-in-Some-value.ensures.value)) in
    let e = c.in_err-value-in-Some-value.field-0.0 in
    let r = c.from_residual-in_err-value-in-Some-value.result in
    record {
      value = as_stmt W fr X (tree.ReturnStmt A (Some v)) S M0 seen_exit r K is
          (after_spend seen_exit true go M0 M1 r K H (then_stops seen_exit (eval W true v S M1) behind K e r (λ none. held ∙ c.in_err-value-in-Some-value.ensures.value none) c.from_residual-in_err-value-in-Some-value.ensures.1));
    }

pub statements::exec-returns-in_err-given-in-Some-value : goal.statements::exec-returns-in_err-given-in-Some-value
statements::exec-returns-in_err-given-in-Some-value t c =
    let L = c.args.program.now.declared.limit in
    let core = seen_core c.args.core.now in
    let types = map seen_alias c.args.program.now.declared.types in
    let W = code core types L c.args.calls in
    let fr = frame L types c.args.routine.now c.args.types.now (store_of c.args.entry.now) in
    let S = store_of c.args.store.items in
    let M0 = meter_of c.args.meter.now in
    let M1 = meter_of c.tick.new.self in
    let A = c.args.stmt.now.at in
    let E = c.args.stmt.now in
    let X = seen_stmt c.args.stmt.now in
    let H = c.in_ok-tick.ensures.value in
    let left = statements.leave W fr A fr.result in
    let v = seen_expr c.in-Some-value.expr in
    let is = return_of E c.in-Return.value c.in-Return.is ∙ ap (λ o. tree.ReturnStmt A (seen_expr_option o)) c.in-Some-value.is in
    let behind = λ (d : datum.Datum). left (Some d) in
    let go = λ (m : Meter). eval W true v S m >>= behind in
    let K = meter_of c.value_of-in-Some-value.new.meter in
    let held = ap (λ s. eval W true v s M1) (sym (ap store_of c.as_slice-held-in-Some-value.ensures.value)) in
    let d = seen c.in_ok-value-in-Some-value.value in
    let J = meter_of c.leave-in-Some-value.new.meter in
    let given = held ∙ c.in_ok-value-in-Some-value.ensures.value in
    let same = leave_as core types L c.args.calls fr A fr.result (Some d) K in
    let e = c.in_err-given-in-Some-value.field-0.0 in
    let r = c.from_residual-in_err-given-in-Some-value.result in
    record {
      value = as_stmt W fr X (tree.ReturnStmt A (Some v)) S M0 seen_exit r J is
          (after_spend seen_exit true go M0 M1 r J H
          (then_gives seen_exit (eval W true v S M1) behind d K r J given (refused seen_exit (left (Some d) K) J e r (λ none. same ∙ c.in_err-given-in-Some-value.ensures.value none) c.from_residual-in_err-given-in-Some-value.ensures.1)));
    }

pub statements::exec-returns-in-Return : goal.statements::exec-returns-in-Return
statements::exec-returns-in-Return t c =
    let L = c.args.program.now.declared.limit in
    let core = seen_core c.args.core.now in
    let types = map seen_alias c.args.program.now.declared.types in
    let W = code core types L c.args.calls in
    let fr = frame L types c.args.routine.now c.args.types.now (store_of c.args.entry.now) in
    let S = store_of c.args.store.items in
    let M0 = meter_of c.args.meter.now in
    let M1 = meter_of c.tick.new.self in
    let A = c.args.stmt.now.at in
    let E = c.args.stmt.now in
    let H = c.in_ok-tick.ensures.value in
    let left = statements.leave W fr A fr.result in
    let v = seen_expr c.in-Some-value.expr in
    let is = return_of E c.in-Return.value c.in-Return.is ∙ ap (λ o. tree.ReturnStmt A (seen_expr_option o)) c.in-Some-value.is in
    let behind = λ (d : datum.Datum). left (Some d) in
    let go = λ (m : Meter). eval W true v S m >>= behind in
    let K = meter_of c.value_of-in-Some-value.new.meter in
    let held = ap (λ s. eval W true v s M1) (sym (ap store_of c.as_slice-held-in-Some-value.ensures.value)) in
    let d = seen c.in_ok-value-in-Some-value.value in
    let given = held ∙ c.in_ok-value-in-Some-value.ensures.value in
    let same = leave_as core types L c.args.calls fr A fr.result (Some d) K in
    record {
      value = ap (λ y. statements.exec W fr y S M0) is ∙ (spent true go M0 M1 H ∙ (then_is (eval W true v S M1) behind d K given ∙ (same ∙ c.in_ok-given-in-Some-value.ensures.value)));
    }

pub statements::exec-returns-in_err-holds-in-Assert : goal.statements::exec-returns-in_err-holds-in-Assert
statements::exec-returns-in_err-holds-in-Assert t c =
    let L = c.args.program.now.declared.limit in
    let core = seen_core c.args.core.now in
    let types = map seen_alias c.args.program.now.declared.types in
    let W = code core types L c.args.calls in
    let fr = frame L types c.args.routine.now c.args.types.now (store_of c.args.entry.now) in
    let S = store_of c.args.store.items in
    let M0 = meter_of c.args.meter.now in
    let M1 = meter_of c.tick.new.self in
    let A = c.args.stmt.now.at in
    let E = c.args.stmt.now in
    let X = seen_stmt c.args.stmt.now in
    let H = c.in_ok-tick.ensures.value in
    let v = seen_expr c.in-Assert.test in
    let is = assert_of E c.in-Assert.test c.in-Assert.is in
    let behind = λ (b : Bool). sem_check b Assert A (λ m. Done (statements.Went S) m) in
    let go = λ (m : Meter). spec.holds_at W A v S m >>= behind in
    let K = meter_of c.holds_at.new.meter in
    let held = ap (λ s. spec.holds_at W A v s M1) (sym (ap store_of c.as_slice-held-in-Assert.ensures.value)) in
    let e = c.in_err-holds-in-Assert.field-0.0 in
    let r = c.from_residual-in_err-holds-in-Assert.result in
    record {
      value = as_stmt W fr X (tree.AssertStmt A v) S M0 seen_exit r K is
          (after_spend seen_exit true go M0 M1 r K H (then_stops seen_exit (spec.holds_at W A v S M1) behind K e r (λ none. held ∙ c.in_err-holds-in-Assert.ensures.value none) c.from_residual-in_err-holds-in-Assert.ensures.1));
    }

pub statements::exec-returns-in_err-check-in-Assert : goal.statements::exec-returns-in_err-check-in-Assert
statements::exec-returns-in_err-check-in-Assert t c =
    let L = c.args.program.now.declared.limit in
    let core = seen_core c.args.core.now in
    let types = map seen_alias c.args.program.now.declared.types in
    let W = code core types L c.args.calls in
    let fr = frame L types c.args.routine.now c.args.types.now (store_of c.args.entry.now) in
    let S = store_of c.args.store.items in
    let M0 = meter_of c.args.meter.now in
    let M1 = meter_of c.tick.new.self in
    let A = c.args.stmt.now.at in
    let E = c.args.stmt.now in
    let X = seen_stmt c.args.stmt.now in
    let H = c.in_ok-tick.ensures.value in
    let v = seen_expr c.in-Assert.test in
    let is = assert_of E c.in-Assert.test c.in-Assert.is in
    let behind = λ (b : Bool). sem_check b Assert A (λ m. Done (statements.Went S) m) in
    let go = λ (m : Meter). spec.holds_at W A v S m >>= behind in
    let K = meter_of c.holds_at.new.meter in
    let held = ap (λ s. spec.holds_at W A v s M1) (sym (ap store_of c.as_slice-held-in-Assert.ensures.value)) in
    let b = c.in_ok-holds-in-Assert.holds in
    let e = c.in_err-check-in-Assert.field-0.0 in
    let r = c.from_residual-in_err-check-in-Assert.result in
    record {
      value = as_stmt W fr X (tree.AssertStmt A v) S M0 seen_exit r K is
          (after_spend seen_exit true go M0 M1 r K H
          (then_gives seen_exit (spec.holds_at W A v S M1) behind b K r K (held ∙ c.in_ok-holds-in-Assert.ensures.value)
          (refused seen_exit (behind b K) K e r (λ none. checked_stops b Assert A (λ m. Done (statements.Went S) m) K K e (c.in_err-check-in-Assert.ensures.value K) none) c.from_residual-in_err-check-in-Assert.ensures.1)));
    }

pub statements::exec-returns-in-Assert : goal.statements::exec-returns-in-Assert
statements::exec-returns-in-Assert t c =
    let L = c.args.program.now.declared.limit in
    let core = seen_core c.args.core.now in
    let types = map seen_alias c.args.program.now.declared.types in
    let W = code core types L c.args.calls in
    let fr = frame L types c.args.routine.now c.args.types.now (store_of c.args.entry.now) in
    let S = store_of c.args.store.items in
    let M0 = meter_of c.args.meter.now in
    let M1 = meter_of c.tick.new.self in
    let A = c.args.stmt.now.at in
    let E = c.args.stmt.now in
    let H = c.in_ok-tick.ensures.value in
    let v = seen_expr c.in-Assert.test in
    let is = assert_of E c.in-Assert.test c.in-Assert.is in
    let behind = λ (b : Bool). sem_check b Assert A (λ m. Done (statements.Went S) m) in
    let go = λ (m : Meter). spec.holds_at W A v S m >>= behind in
    let K = meter_of c.holds_at.new.meter in
    let held = ap (λ s. spec.holds_at W A v s M1) (sym (ap store_of c.as_slice-held-in-Assert.ensures.value)) in
    let b = c.in_ok-holds-in-Assert.holds in
    record {
      value = ap (λ y. statements.exec W fr y S M0) is
          ∙ (spent true go M0 M1 H ∙ (then_is (spec.holds_at W A v S M1) behind b K (held ∙ c.in_ok-holds-in-Assert.ensures.value) ∙ checked b Assert A (λ m. Done (statements.Went S) m) K K (c.in_ok-check-in-Assert.ensures.value K)));
    }

pub statements::exec-returns-in_err-value-in-If : goal.statements::exec-returns-in_err-value-in-If
statements::exec-returns-in_err-value-in-If t c =
    let L = c.args.program.now.declared.limit in
    let core = seen_core c.args.core.now in
    let types = map seen_alias c.args.program.now.declared.types in
    let W = code core types L c.args.calls in
    let fr = frame L types c.args.routine.now c.args.types.now (store_of c.args.entry.now) in
    let S = store_of c.args.store.items in
    let M0 = meter_of c.args.meter.now in
    let M1 = meter_of c.tick.new.self in
    let A = c.args.stmt.now.at in
    let E = c.args.stmt.now in
    let X = seen_stmt c.args.stmt.now in
    let H = c.in_ok-tick.ensures.value in
    let v = seen_expr c.in-If.test in
    let first = c.in-If.first in
    let second = c.in-If.second in
    let is = if_of E c.in-If.test c.in-If.first first c.in-If.second second c.in-If.is refl refl in
    let behind = λ (b : Bool). choose b (exec_all W fr (seen_block first) S) (exec_all W fr (seen_block second) S) in
    let go = λ (m : Meter). statements.tested_truth W A v S m >>= behind in
    let K = meter_of c.value_of-in-If.new.meter in
    let held = ap (λ s. eval W true v s M1) (sym (ap store_of c.as_slice-held-in-If.ensures.value)) in
    let Y = tree.IfStmt A v (seen_block first) (seen_block second) in
    let e = c.in_err-value-in-If.field-0.0 in
    let r = c.from_residual-in_err-value-in-If.result in
    record {
      value = as_stmt W fr X Y S M0 seen_exit r K is
          (after_spend seen_exit true go M0 M1 r K H (then_stops seen_exit (statements.tested_truth W A v S M1) behind K e r (λ none. truth_stops W A v S M1 K e (λ q. held ∙ c.in_err-value-in-If.ensures.value q) none) c.from_residual-in_err-value-in-If.ensures.1));
    }

pub statements::exec-returns-in_err-truth-in-If : goal.statements::exec-returns-in_err-truth-in-If
statements::exec-returns-in_err-truth-in-If t c =
    let L = c.args.program.now.declared.limit in
    let core = seen_core c.args.core.now in
    let types = map seen_alias c.args.program.now.declared.types in
    let W = code core types L c.args.calls in
    let fr = frame L types c.args.routine.now c.args.types.now (store_of c.args.entry.now) in
    let S = store_of c.args.store.items in
    let M0 = meter_of c.args.meter.now in
    let M1 = meter_of c.tick.new.self in
    let A = c.args.stmt.now.at in
    let E = c.args.stmt.now in
    let X = seen_stmt c.args.stmt.now in
    let H = c.in_ok-tick.ensures.value in
    let v = seen_expr c.in-If.test in
    let first = c.in-If.first in
    let second = c.in-If.second in
    let is = if_of E c.in-If.test c.in-If.first first c.in-If.second second c.in-If.is refl refl in
    let behind = λ (b : Bool). choose b (exec_all W fr (seen_block first) S) (exec_all W fr (seen_block second) S) in
    let go = λ (m : Meter). statements.tested_truth W A v S m >>= behind in
    let K = meter_of c.value_of-in-If.new.meter in
    let held = ap (λ s. eval W true v s M1) (sym (ap store_of c.as_slice-held-in-If.ensures.value)) in
    let Y = tree.IfStmt A v (seen_block first) (seen_block second) in
    let d = seen c.in_ok-value-in-If.value in
    let given = held ∙ c.in_ok-value-in-If.ensures.value in
    let e = c.in_err-truth-in-If.field-0.0 in
    let r = c.from_residual-in_err-truth-in-If.result in
    record {
      value = as_stmt W fr X Y S M0 seen_exit r K is
          (after_spend seen_exit true go M0 M1 r K H (then_stops seen_exit (statements.tested_truth W A v S M1) behind K e r (λ none. truth_faults W A v S M1 K d e given c.in_err-truth-in-If.ensures.value) c.from_residual-in_err-truth-in-If.ensures.1));
    }

pub statements::exec-returns-then-truth : goal.statements::exec-returns-then-truth
statements::exec-returns-then-truth t c =
    let L = c.args.program.now.declared.limit in
    let core = seen_core c.args.core.now in
    let types = map seen_alias c.args.program.now.declared.types in
    let W = code core types L c.args.calls in
    let fr = frame L types c.args.routine.now c.args.types.now (store_of c.args.entry.now) in
    let S = store_of c.args.store.items in
    let M0 = meter_of c.args.meter.now in
    let M1 = meter_of c.tick.new.self in
    let A = c.args.stmt.now.at in
    let E = c.args.stmt.now in
    let X = seen_stmt c.args.stmt.now in
    let H = c.in_ok-tick.ensures.value in
    let v = seen_expr c.in-If.test in
    let first = c.as_slice-first.result.now in
    let second = c.in-If.second in
    let is = if_of E c.in-If.test c.in-If.first first c.in-If.second second c.in-If.is c.as_slice-first.ensures refl in
    let behind = λ (b : Bool). choose b (exec_all W fr (seen_block first) S) (exec_all W fr (seen_block second) S) in
    let go = λ (m : Meter). statements.tested_truth W A v S m >>= behind in
    let K = meter_of c.value_of-in-If.new.meter in
    let held = ap (λ s. eval W true v s M1) (sym (ap store_of c.as_slice-held-in-If.ensures.value)) in
    let Y = tree.IfStmt A v (seen_block first) (seen_block second) in
    let d = seen c.in_ok-value-in-If.value in
    let given = held ∙ c.in_ok-value-in-If.ensures.value in
    let b = c.in_ok-truth-in-If.truth in
    let r = c.exec_all.result in
    let J = meter_of c.exec_all.new.meter in
    let tested = truth_is W A v S M1 K d b given c.in_ok-truth-in-If.ensures.value in
    record {
      value = as_stmt W fr X Y S M0 seen_exit r J is
          (after_spend seen_exit true go M0 M1 r J H
          (then_gives seen_exit (statements.tested_truth W A v S M1) behind b K r J tested
          (gives_as seen_exit (behind b K) (exec_all W fr (seen_block first) S K) r J (ap (λ t. behind t K) c.if-truth.true) c.exec_all.ensures.value)));
    }

pub statements::exec-returns-in-If : goal.statements::exec-returns-in-If
statements::exec-returns-in-If t c =
    let L = c.args.program.now.declared.limit in
    let core = seen_core c.args.core.now in
    let types = map seen_alias c.args.program.now.declared.types in
    let W = code core types L c.args.calls in
    let fr = frame L types c.args.routine.now c.args.types.now (store_of c.args.entry.now) in
    let S = store_of c.args.store.items in
    let M0 = meter_of c.args.meter.now in
    let M1 = meter_of c.tick.new.self in
    let A = c.args.stmt.now.at in
    let E = c.args.stmt.now in
    let X = seen_stmt c.args.stmt.now in
    let H = c.in_ok-tick.ensures.value in
    let v = seen_expr c.in-If.test in
    let first = c.in-If.first in
    let second = c.as_slice-second.result.now in
    let is = if_of E c.in-If.test c.in-If.first first c.in-If.second second c.in-If.is refl c.as_slice-second.ensures in
    let behind = λ (b : Bool). choose b (exec_all W fr (seen_block first) S) (exec_all W fr (seen_block second) S) in
    let go = λ (m : Meter). statements.tested_truth W A v S m >>= behind in
    let K = meter_of c.value_of-in-If.new.meter in
    let held = ap (λ s. eval W true v s M1) (sym (ap store_of c.as_slice-held-in-If.ensures.value)) in
    let Y = tree.IfStmt A v (seen_block first) (seen_block second) in
    let d = seen c.in_ok-value-in-If.value in
    let given = held ∙ c.in_ok-value-in-If.ensures.value in
    let b = c.in_ok-truth-in-If.truth in
    let r = c.exec_all-in-If.result in
    let J = meter_of c.exec_all-in-If.new.meter in
    let tested = truth_is W A v S M1 K d b given c.in_ok-truth-in-If.ensures.value in
    record {
      value = as_stmt W fr X Y S M0 seen_exit r J is
          (after_spend seen_exit true go M0 M1 r J H
          (then_gives seen_exit (statements.tested_truth W A v S M1) behind b K r J tested
          (gives_as seen_exit (behind b K) (exec_all W fr (seen_block second) S K) r J (ap (λ t. behind t K) c.if-truth.false) c.exec_all-in-If.ensures.value)));
    }

pub statements::exec-returns-in_err-clauses_hold-in-While : goal.statements::exec-returns-in_err-clauses_hold-in-While
statements::exec-returns-in_err-clauses_hold-in-While t c =
    let L = c.args.program.now.declared.limit in
    let core = seen_core c.args.core.now in
    let types = map seen_alias c.args.program.now.declared.types in
    let W = code core types L c.args.calls in
    let fr = frame L types c.args.routine.now c.args.types.now (store_of c.args.entry.now) in
    let S = store_of c.args.store.items in
    let M0 = meter_of c.args.meter.now in
    let M1 = meter_of c.tick.new.self in
    let A = c.args.stmt.now.at in
    let E = c.args.stmt.now in
    let X = seen_stmt c.args.stmt.now in
    let H = c.in_ok-tick.ensures.value in
    let v = seen_expr c.in-While.test in
    let es = seen_exprs c.as_slice-invariants.result.now in
    let ss = c.as_slice-body.result.now in
    let is = while_of E c.in-While.test c.in-While.invariants c.as_slice-invariants.result.now c.in-While.body ss c.in-While.is c.as_slice-invariants.ensures c.as_slice-body.ensures in
    let next = λ (m : Meter). turning W fr A v (exec_all W fr (seen_block ss)) es (suc m.ticks) S m in
    let go = clauses W Entry A es S next in
    let there = clauses (clause_setting here (Some L) types) Entry A es in
    let K = meter_of c.clauses_hold.new.meter in
    let held = ap (λ s. there s done M1) (sym (ap store_of c.as_slice-held-in-While.ensures.value)) in
    let same = clauses_as core types L c.args.calls Entry A es S next M1 in
    let Y = tree.WhileStmt A v es (seen_block ss) in
    let e = c.in_err-clauses_hold-in-While.field-0.0 in
    let r = c.from_residual-in_err-clauses_hold-in-While.result in
    record {
      value = as_stmt W fr X Y S M0 seen_exit r K is
          (after_spend seen_exit true go M0 M1 r K H
          (refused seen_exit (go M1) K e r (λ none. same ∙ clauses_stops (clause_setting here (Some L) types) Entry A es S next M1 K e (λ q. held ∙ c.in_err-clauses_hold-in-While.ensures.value q) none) c.from_residual-in_err-clauses_hold-in-While.ensures.1));
    }

pub statements::exec-returns : goal.statements::exec-returns
statements::exec-returns t c =
    let L = c.args.program.now.declared.limit in
    let core = seen_core c.args.core.now in
    let types = map seen_alias c.args.program.now.declared.types in
    let W = code core types L c.args.calls in
    let fr = frame L types c.args.routine.now c.args.types.now (store_of c.args.entry.now) in
    let S = store_of c.args.store.items in
    let M0 = meter_of c.args.meter.now in
    let M1 = meter_of c.tick.new.self in
    let A = c.args.stmt.now.at in
    let E = c.args.stmt.now in
    let X = seen_stmt c.args.stmt.now in
    let H = c.in_ok-tick.ensures.value in
    let v = seen_expr c.in-While.test in
    let es = seen_exprs c.as_slice-invariants.result.now in
    let ss = c.as_slice-body.result.now in
    let is = while_of E c.in-While.test c.in-While.invariants c.as_slice-invariants.result.now c.in-While.body ss c.in-While.is c.as_slice-invariants.ensures c.as_slice-body.ensures in
    let next = λ (m : Meter). turning W fr A v (exec_all W fr (seen_block ss)) es (suc m.ticks) S m in
    let go = clauses W Entry A es S next in
    let there = clauses (clause_setting here (Some L) types) Entry A es in
    let K = meter_of c.clauses_hold.new.meter in
    let held = ap (λ s. there s done M1) (sym (ap store_of c.as_slice-held-in-While.ensures.value)) in
    let same = clauses_as core types L c.args.calls Entry A es S next M1 in
    let Y = tree.WhileStmt A v es (seen_block ss) in
    let r = c.rounds.result in
    let J = meter_of c.rounds.new.meter in
    record {
      value = as_stmt W fr X Y S M0 seen_exit r J is
          (after_spend seen_exit true go M0 M1 r J H
          (gives_as seen_exit (go M1) (next K) r J (same ∙ clauses_then (clause_setting here (Some L) types) Entry A es S next M1 K (held ∙ c.in_ok-clauses_hold-in-While.ensures.value)) c.rounds.ensures.value));
    }
