use Rattle.wy_core.specs.CoreTree as tree
use Rattle.std.proofs.Common.{◌∙◌, refl, ap, [], ◌∷◌, ◌++◌}
use Rattle.wy_core.specs.CoreSeen.{seen_ty, seen_expr, seen_exprs, seen_fields}
use Rattle.wy_core.specs.CoreTree.{exprs_of}
use Rattle.wy_flow_spec.specs.environment.Seen.{seen_changes, seen_environment}
use Rattle.wy_flow_spec.specs.environment.Variables.{type_of, int_type, null_type}
use Rattle.wy_types.specs.Names.{types_of}
use Rattle.wy_flow_spec.specs.typing.Calls.{CallOf}
use Rattle.wy_flow_spec.specs.typing.Expressions.{TypedExpr, TypedExprs, TypedFields, none_yet, no_field_yet}
use Rattle.wy_flow_spec.specs.typing.Narrowing.{IsTest}
use Rattle.wy_flow_spec.specs.typing.Operators.{Neg, Not, Len, Binary, right_side}
use Rattle.wy_flow_spec.specs.typing.Outcomes.{Gives, Fails, Then}
use Rattle.wy_flow_spec.specs.typing.Parts.{ListOf, RepeatOf, RecordOf, IndexOf, FieldOf, QuantOf}
use Rattle.wy_flow_exprs.proofs.checks_lemmas.StepLemmas.{next, first_refused, refused_on}
use Rattle.wy_flow_exprs.specs.Seen.{seen_all, seen_all_fields, seen_flow, seen_found, seen_program}
use Rattle.wy_flow_exprs.proofs.FoundLemmas.{truth_at, type_at}
use Rattle.wy_flow_exprs.proofs.LoopLemmas.{exprs_turn, exprs_refused, exprs_end, fields_turn, fields_refused, fields_end}
use Rattle.wy_flow_exprs.proofs.FormLemmas.{binary_at, right_at}
use Rattle.wy_core_lemmas.proofs.ExpressionKinds.{null_of, bool_of, int_of, var_of, call_of, neg_of, not_of, len_of, binary_of, is_of, index_of, field_of, list_of, repeat_of, record_of, quant_of}
use Rattle.wy_flow_exprs.proofs.KindLemmas.{as_kind, under}
use Rattle.wy_flow_exprs.proofs.expressions.+typed.Goals as goal

pub typed-returns-in_ok-ty-in-Null-clause-value : goal.typed-returns-in_ok-ty-in-Null-clause-value
typed-returns-in_ok-ty-in-Null-clause-value t c =
    as_kind (seen_program c.args.program.now) (seen_environment c.args.env.now) (seen_changes c.args.over.now) (seen_flow c.args.walk.now) (seen_expr c.args.expr.now) (tree.NullExpr c.args.expr.now.at) (seen_found (seen_flow c.of_type.new.walk)) c.of_type.result (null_of c.args.expr.now c.in-Null.is)
    (type_at (seen_found (seen_flow c.of_type.new.walk)) c.of_type.result (seen_ty c.in_ok-ty-in-Null.ty) null_type (seen_flow c.args.walk.now) (seen_flow c.args.walk.now) c.in_ok-ty-in-Null.ensures.value refl c.of_type.ensures.value)

pub typed-returns-in-Bool-clause-value : goal.typed-returns-in-Bool-clause-value
typed-returns-in-Bool-clause-value t c =
    as_kind (seen_program c.args.program.now) (seen_environment c.args.env.now) (seen_changes c.args.over.now) (seen_flow c.args.walk.now) (seen_expr c.args.expr.now) (tree.BoolExpr c.args.expr.now.at c.in-Bool.field-0) (seen_found (seen_flow c.truth.new.walk)) c.truth.result (bool_of c.args.expr.now c.in-Bool.field-0 c.in-Bool.is)
    (truth_at (seen_found (seen_flow c.truth.new.walk)) c.truth.result (seen_changes c.new.result) [] (seen_changes c.new-in-Bool.result) [] (seen_flow c.args.walk.now) (seen_flow c.args.walk.now) (ap seen_changes c.new.ensures) (ap seen_changes c.new-in-Bool.ensures) refl c.truth.ensures.value)

pub typed-returns-in-Int-clause-value : goal.typed-returns-in-Int-clause-value
typed-returns-in-Int-clause-value t c =
    as_kind (seen_program c.args.program.now) (seen_environment c.args.env.now) (seen_changes c.args.over.now) (seen_flow c.args.walk.now) (seen_expr c.args.expr.now) (tree.IntExpr c.args.expr.now.at c.in-Int.field-0) (seen_found (seen_flow c.number.new.walk)) c.number.result (int_of c.args.expr.now c.in-Int.field-0 c.in-Int.is)
    (c.number.ensures.value)

pub typed-returns-in_ok-ty-in-Var-clause-value : goal.typed-returns-in_ok-ty-in-Var-clause-value
typed-returns-in_ok-ty-in-Var-clause-value t c =
    as_kind (seen_program c.args.program.now) (seen_environment c.args.env.now) (seen_changes c.args.over.now) (seen_flow c.args.walk.now) (seen_expr c.args.expr.now) (tree.VarExpr c.args.expr.now.at c.in-Var.variable) (seen_found (seen_flow c.of_type-in-Var.new.walk)) c.of_type-in-Var.result (var_of c.args.expr.now c.in-Var.variable c.in-Var.is)
    (type_at (seen_found (seen_flow c.of_type-in-Var.new.walk)) c.of_type-in-Var.result (seen_ty c.in_ok-ty-in-Var.ty) (type_of (seen_environment c.args.env.now) (seen_changes c.args.over.now) c.in-Var.variable) (seen_flow c.args.walk.now) (seen_flow c.args.walk.now) c.in_ok-ty-in-Var.ensures.value refl c.of_type-in-Var.ensures.value)

pub typed-returns-in_ok-args-in-Call-clause-value : goal.typed-returns-in_ok-args-in-Call-clause-value
typed-returns-in_ok-args-in-Call-clause-value t c =
    as_kind (seen_program c.args.program.now) (seen_environment c.args.env.now) (seen_changes c.args.over.now) (seen_flow c.args.walk.now) (seen_expr c.args.expr.now) (tree.CallExpr c.args.expr.now.at c.in-Call.routine (exprs_of (seen_exprs c.as_slice.result.now))) (seen_found (seen_flow c.call.new.walk)) c.call.result (call_of c.args.expr.now c.in-Call.routine c.in-Call.args c.as_slice.result.now c.in-Call.is c.as_slice.ensures)
    (next (λ k. TypedExprs (seen_program c.args.program.now) (seen_environment c.args.env.now) (exprs_of (seen_exprs c.as_slice.result.now)) (seen_changes c.args.over.now) (none_yet (seen_flow c.args.walk.now)) k) (λ a. CallOf (seen_program c.args.program.now) c.args.expr.now.at c.in-Call.routine a) (seen_found (seen_flow c.call.new.walk)) (seen_all (seen_flow c.typed_all.new.walk) c.in_ok-args-in-Call.args) c.call.result c.in_ok-args-in-Call.ensures.value c.call.ensures.value)

pub typed-returns-in_err-args-in-Call-clause-value : goal.typed-returns-in_err-args-in-Call-clause-value
typed-returns-in_err-args-in-Call-clause-value t c =
    as_kind (seen_program c.args.program.now) (seen_environment c.args.env.now) (seen_changes c.args.over.now) (seen_flow c.args.walk.now) (seen_expr c.args.expr.now) (tree.CallExpr c.args.expr.now.at c.in-Call.routine (exprs_of (seen_exprs c.as_slice.result.now))) (seen_found (seen_flow c.typed_all.new.walk)) c.from_residual-in_err-args-in-Call.result (call_of c.args.expr.now c.in-Call.routine c.in-Call.args c.as_slice.result.now c.in-Call.is c.as_slice.ensures)
    (first_refused (λ k. TypedExprs (seen_program c.args.program.now) (seen_environment c.args.env.now) (exprs_of (seen_exprs c.as_slice.result.now)) (seen_changes c.args.over.now) (none_yet (seen_flow c.args.walk.now)) k) (λ a. CallOf (seen_program c.args.program.now) c.args.expr.now.at c.in-Call.routine a) (seen_found (seen_flow c.typed_all.new.walk)) c.in_err-args-in-Call.field-0.0 c.from_residual-in_err-args-in-Call.result c.in_err-args-in-Call.ensures.value c.from_residual-in_err-args-in-Call.ensures.1)

pub typed-returns-in_ok-items-in-List-clause-value : goal.typed-returns-in_ok-items-in-List-clause-value
typed-returns-in_ok-items-in-List-clause-value t c =
    as_kind (seen_program c.args.program.now) (seen_environment c.args.env.now) (seen_changes c.args.over.now) (seen_flow c.args.walk.now) (seen_expr c.args.expr.now) (tree.ListExpr c.args.expr.now.at (exprs_of (seen_exprs c.as_slice-in-List.result.now))) (seen_found (seen_flow c.list.new.walk)) c.list.result (list_of c.args.expr.now c.in-List.items c.as_slice-in-List.result.now c.in-List.is c.as_slice-in-List.ensures)
    (next (λ k. TypedExprs (seen_program c.args.program.now) (seen_environment c.args.env.now) (exprs_of (seen_exprs c.as_slice-in-List.result.now)) (seen_changes c.args.over.now) (none_yet (seen_flow c.args.walk.now)) k) (λ a. ListOf (types_of c.args.program.now.names) c.args.expr.now.at a) (seen_found (seen_flow c.list.new.walk)) (seen_all (seen_flow c.typed_all-in-List.new.walk) c.in_ok-items-in-List.items) c.list.result c.in_ok-items-in-List.ensures.value c.list.ensures.value)

pub typed-returns-in_err-items-in-List-clause-value : goal.typed-returns-in_err-items-in-List-clause-value
typed-returns-in_err-items-in-List-clause-value t c =
    as_kind (seen_program c.args.program.now) (seen_environment c.args.env.now) (seen_changes c.args.over.now) (seen_flow c.args.walk.now) (seen_expr c.args.expr.now) (tree.ListExpr c.args.expr.now.at (exprs_of (seen_exprs c.as_slice-in-List.result.now))) (seen_found (seen_flow c.typed_all-in-List.new.walk)) c.from_residual-in_err-items-in-List.result (list_of c.args.expr.now c.in-List.items c.as_slice-in-List.result.now c.in-List.is c.as_slice-in-List.ensures)
    (first_refused (λ k. TypedExprs (seen_program c.args.program.now) (seen_environment c.args.env.now) (exprs_of (seen_exprs c.as_slice-in-List.result.now)) (seen_changes c.args.over.now) (none_yet (seen_flow c.args.walk.now)) k) (λ a. ListOf (types_of c.args.program.now.names) c.args.expr.now.at a) (seen_found (seen_flow c.typed_all-in-List.new.walk)) c.in_err-items-in-List.field-0.0 c.from_residual-in_err-items-in-List.result c.in_err-items-in-List.ensures.value c.from_residual-in_err-items-in-List.ensures.1)

pub typed-returns-in_ok-fields-in-Record-clause-value : goal.typed-returns-in_ok-fields-in-Record-clause-value
typed-returns-in_ok-fields-in-Record-clause-value t c =
    as_kind (seen_program c.args.program.now) (seen_environment c.args.env.now) (seen_changes c.args.over.now) (seen_flow c.args.walk.now) (seen_expr c.args.expr.now) (tree.RecordExpr c.args.expr.now.at (seen_fields c.as_slice-in-Record.result.now)) (seen_found (seen_flow c.record.new.walk)) c.record.result (record_of c.args.expr.now c.in-Record.fields c.as_slice-in-Record.result.now c.in-Record.is c.as_slice-in-Record.ensures)
    (next (λ k. TypedFields (seen_program c.args.program.now) (seen_environment c.args.env.now) (seen_fields c.as_slice-in-Record.result.now) (seen_changes c.args.over.now) (no_field_yet (seen_flow c.args.walk.now)) k) (λ a. RecordOf (types_of c.args.program.now.names) c.args.expr.now.at a) (seen_found (seen_flow c.record.new.walk)) (seen_all_fields (seen_flow c.typed_fields.new.walk) c.in_ok-fields-in-Record.fields) c.record.result c.in_ok-fields-in-Record.ensures.value c.record.ensures.value)

pub typed-returns-in_err-fields-in-Record-clause-value : goal.typed-returns-in_err-fields-in-Record-clause-value
typed-returns-in_err-fields-in-Record-clause-value t c =
    as_kind (seen_program c.args.program.now) (seen_environment c.args.env.now) (seen_changes c.args.over.now) (seen_flow c.args.walk.now) (seen_expr c.args.expr.now) (tree.RecordExpr c.args.expr.now.at (seen_fields c.as_slice-in-Record.result.now)) (seen_found (seen_flow c.typed_fields.new.walk)) c.from_residual-in_err-fields-in-Record.result (record_of c.args.expr.now c.in-Record.fields c.as_slice-in-Record.result.now c.in-Record.is c.as_slice-in-Record.ensures)
    (first_refused (λ k. TypedFields (seen_program c.args.program.now) (seen_environment c.args.env.now) (seen_fields c.as_slice-in-Record.result.now) (seen_changes c.args.over.now) (no_field_yet (seen_flow c.args.walk.now)) k) (λ a. RecordOf (types_of c.args.program.now.names) c.args.expr.now.at a) (seen_found (seen_flow c.typed_fields.new.walk)) c.in_err-fields-in-Record.field-0.0 c.from_residual-in_err-fields-in-Record.result c.in_err-fields-in-Record.ensures.value c.from_residual-in_err-fields-in-Record.ensures.1)

pub typed-returns-in_ok-operand-in-Neg-clause-value : goal.typed-returns-in_ok-operand-in-Neg-clause-value
typed-returns-in_ok-operand-in-Neg-clause-value t c =
    as_kind (seen_program c.args.program.now) (seen_environment c.args.env.now) (seen_changes c.args.over.now) (seen_flow c.args.walk.now) (seen_expr c.args.expr.now) (tree.NegExpr c.args.expr.now.at (seen_expr c.get.result.now)) (seen_found (seen_flow c.neg.new.walk)) c.neg.result (neg_of c.args.expr.now c.in-Neg.operand c.get.result.now c.in-Neg.is c.get.ensures)
    (next (λ k. TypedExpr (seen_program c.args.program.now) (seen_environment c.args.env.now) (seen_expr c.get.result.now) (seen_changes c.args.over.now) (seen_flow c.args.walk.now) k) (λ v. Neg (types_of c.args.program.now.names) c.args.expr.now.at v) (seen_found (seen_flow c.neg.new.walk)) (seen_found (seen_flow c.typed.new.walk) c.in_ok-operand-in-Neg.operand) c.neg.result c.in_ok-operand-in-Neg.ensures.value c.neg.ensures.value)

pub typed-returns-in_err-operand-in-Neg-clause-value : goal.typed-returns-in_err-operand-in-Neg-clause-value
typed-returns-in_err-operand-in-Neg-clause-value t c =
    as_kind (seen_program c.args.program.now) (seen_environment c.args.env.now) (seen_changes c.args.over.now) (seen_flow c.args.walk.now) (seen_expr c.args.expr.now) (tree.NegExpr c.args.expr.now.at (seen_expr c.get.result.now)) (seen_found (seen_flow c.typed.new.walk)) c.from_residual-in_err-operand-in-Neg.result (neg_of c.args.expr.now c.in-Neg.operand c.get.result.now c.in-Neg.is c.get.ensures)
    (first_refused (λ k. TypedExpr (seen_program c.args.program.now) (seen_environment c.args.env.now) (seen_expr c.get.result.now) (seen_changes c.args.over.now) (seen_flow c.args.walk.now) k) (λ v. Neg (types_of c.args.program.now.names) c.args.expr.now.at v) (seen_found (seen_flow c.typed.new.walk)) c.in_err-operand-in-Neg.field-0.0 c.from_residual-in_err-operand-in-Neg.result c.in_err-operand-in-Neg.ensures.value c.from_residual-in_err-operand-in-Neg.ensures.1)

pub typed-returns-in_ok-operand-in-Not-clause-value : goal.typed-returns-in_ok-operand-in-Not-clause-value
typed-returns-in_ok-operand-in-Not-clause-value t c =
    as_kind (seen_program c.args.program.now) (seen_environment c.args.env.now) (seen_changes c.args.over.now) (seen_flow c.args.walk.now) (seen_expr c.args.expr.now) (tree.NotExpr c.args.expr.now.at (seen_expr c.get-in-Not.result.now)) (seen_found (seen_flow c.not.new.walk)) c.not.result (not_of c.args.expr.now c.in-Not.operand c.get-in-Not.result.now c.in-Not.is c.get-in-Not.ensures)
    (next (λ k. TypedExpr (seen_program c.args.program.now) (seen_environment c.args.env.now) (seen_expr c.get-in-Not.result.now) (seen_changes c.args.over.now) (seen_flow c.args.walk.now) k) (λ v. Not (types_of c.args.program.now.names) c.args.expr.now.at v) (seen_found (seen_flow c.not.new.walk)) (seen_found (seen_flow c.typed-in-Not.new.walk) c.in_ok-operand-in-Not.operand) c.not.result c.in_ok-operand-in-Not.ensures.value c.not.ensures.value)

pub typed-returns-in_err-operand-in-Not-clause-value : goal.typed-returns-in_err-operand-in-Not-clause-value
typed-returns-in_err-operand-in-Not-clause-value t c =
    as_kind (seen_program c.args.program.now) (seen_environment c.args.env.now) (seen_changes c.args.over.now) (seen_flow c.args.walk.now) (seen_expr c.args.expr.now) (tree.NotExpr c.args.expr.now.at (seen_expr c.get-in-Not.result.now)) (seen_found (seen_flow c.typed-in-Not.new.walk)) c.from_residual-in_err-operand-in-Not.result (not_of c.args.expr.now c.in-Not.operand c.get-in-Not.result.now c.in-Not.is c.get-in-Not.ensures)
    (first_refused (λ k. TypedExpr (seen_program c.args.program.now) (seen_environment c.args.env.now) (seen_expr c.get-in-Not.result.now) (seen_changes c.args.over.now) (seen_flow c.args.walk.now) k) (λ v. Not (types_of c.args.program.now.names) c.args.expr.now.at v) (seen_found (seen_flow c.typed-in-Not.new.walk)) c.in_err-operand-in-Not.field-0.0 c.from_residual-in_err-operand-in-Not.result c.in_err-operand-in-Not.ensures.value c.from_residual-in_err-operand-in-Not.ensures.1)

pub typed-returns-in_ok-operand-in-Len-clause-value : goal.typed-returns-in_ok-operand-in-Len-clause-value
typed-returns-in_ok-operand-in-Len-clause-value t c =
    as_kind (seen_program c.args.program.now) (seen_environment c.args.env.now) (seen_changes c.args.over.now) (seen_flow c.args.walk.now) (seen_expr c.args.expr.now) (tree.LenExpr c.args.expr.now.at (seen_expr c.get-in-Len.result.now)) (seen_found (seen_flow c.len.new.walk)) c.len.result (len_of c.args.expr.now c.in-Len.operand c.get-in-Len.result.now c.in-Len.is c.get-in-Len.ensures)
    (next (λ k. TypedExpr (seen_program c.args.program.now) (seen_environment c.args.env.now) (seen_expr c.get-in-Len.result.now) (seen_changes c.args.over.now) (seen_flow c.args.walk.now) k) (λ v. Len (types_of c.args.program.now.names) c.args.expr.now.at v) (seen_found (seen_flow c.len.new.walk)) (seen_found (seen_flow c.typed-in-Len.new.walk) c.in_ok-operand-in-Len.operand) c.len.result c.in_ok-operand-in-Len.ensures.value c.len.ensures.value)

pub typed-returns-in_err-operand-in-Len-clause-value : goal.typed-returns-in_err-operand-in-Len-clause-value
typed-returns-in_err-operand-in-Len-clause-value t c =
    as_kind (seen_program c.args.program.now) (seen_environment c.args.env.now) (seen_changes c.args.over.now) (seen_flow c.args.walk.now) (seen_expr c.args.expr.now) (tree.LenExpr c.args.expr.now.at (seen_expr c.get-in-Len.result.now)) (seen_found (seen_flow c.typed-in-Len.new.walk)) c.from_residual-in_err-operand-in-Len.result (len_of c.args.expr.now c.in-Len.operand c.get-in-Len.result.now c.in-Len.is c.get-in-Len.ensures)
    (first_refused (λ k. TypedExpr (seen_program c.args.program.now) (seen_environment c.args.env.now) (seen_expr c.get-in-Len.result.now) (seen_changes c.args.over.now) (seen_flow c.args.walk.now) k) (λ v. Len (types_of c.args.program.now.names) c.args.expr.now.at v) (seen_found (seen_flow c.typed-in-Len.new.walk)) c.in_err-operand-in-Len.field-0.0 c.from_residual-in_err-operand-in-Len.result c.in_err-operand-in-Len.ensures.value c.from_residual-in_err-operand-in-Len.ensures.1)

pub typed-returns-in_ok-value-in-Is-clause-value : goal.typed-returns-in_ok-value-in-Is-clause-value
typed-returns-in_ok-value-in-Is-clause-value t c =
    as_kind (seen_program c.args.program.now) (seen_environment c.args.env.now) (seen_changes c.args.over.now) (seen_flow c.args.walk.now) (seen_expr c.args.expr.now) (tree.IsExpr c.args.expr.now.at (seen_expr c.get-operand.result.now) (seen_ty c.in-Is.ty)) (seen_found (seen_flow c.is.new.walk)) c.is.result (is_of c.args.expr.now c.in-Is.operand c.get-operand.result.now c.in-Is.ty c.in-Is.is c.get-operand.ensures)
    (next (λ k. TypedExpr (seen_program c.args.program.now) (seen_environment c.args.env.now) (seen_expr c.get-operand.result.now) (seen_changes c.args.over.now) (seen_flow c.args.walk.now) k) (λ v. IsTest (types_of c.args.program.now.names) c.args.expr.now.at (seen_expr c.get-operand.result.now) v (seen_ty c.in-Is.ty)) (seen_found (seen_flow c.is.new.walk)) (seen_found (seen_flow c.typed-in-Is.new.walk) c.in_ok-value-in-Is.value) c.is.result c.in_ok-value-in-Is.ensures.value c.is.ensures.value)

pub typed-returns-in_err-value-in-Is-clause-value : goal.typed-returns-in_err-value-in-Is-clause-value
typed-returns-in_err-value-in-Is-clause-value t c =
    as_kind (seen_program c.args.program.now) (seen_environment c.args.env.now) (seen_changes c.args.over.now) (seen_flow c.args.walk.now) (seen_expr c.args.expr.now) (tree.IsExpr c.args.expr.now.at (seen_expr c.get-operand.result.now) (seen_ty c.in-Is.ty)) (seen_found (seen_flow c.typed-in-Is.new.walk)) c.from_residual-in_err-value-in-Is.result (is_of c.args.expr.now c.in-Is.operand c.get-operand.result.now c.in-Is.ty c.in-Is.is c.get-operand.ensures)
    (first_refused (λ k. TypedExpr (seen_program c.args.program.now) (seen_environment c.args.env.now) (seen_expr c.get-operand.result.now) (seen_changes c.args.over.now) (seen_flow c.args.walk.now) k) (λ v. IsTest (types_of c.args.program.now.names) c.args.expr.now.at (seen_expr c.get-operand.result.now) v (seen_ty c.in-Is.ty)) (seen_found (seen_flow c.typed-in-Is.new.walk)) c.in_err-value-in-Is.field-0.0 c.from_residual-in_err-value-in-Is.result c.in_err-value-in-Is.ensures.value c.from_residual-in_err-value-in-Is.ensures.1)

pub typed-returns-in_ok-whole-in-Field-clause-value : goal.typed-returns-in_ok-whole-in-Field-clause-value
typed-returns-in_ok-whole-in-Field-clause-value t c =
    as_kind (seen_program c.args.program.now) (seen_environment c.args.env.now) (seen_changes c.args.over.now) (seen_flow c.args.walk.now) (seen_expr c.args.expr.now) (tree.FieldExpr c.args.expr.now.at (seen_expr c.get-in-Field.result.now) c.in-Field.name) (seen_found (seen_flow c.field.new.walk)) c.field.result (field_of c.args.expr.now c.in-Field.whole c.get-in-Field.result.now c.in-Field.name c.in-Field.is c.get-in-Field.ensures)
    (next (λ k. TypedExpr (seen_program c.args.program.now) (seen_environment c.args.env.now) (seen_expr c.get-in-Field.result.now) (seen_changes c.args.over.now) (seen_flow c.args.walk.now) k) (λ v. FieldOf (types_of c.args.program.now.names) c.args.expr.now.at v c.in-Field.name) (seen_found (seen_flow c.field.new.walk)) (seen_found (seen_flow c.typed-in-Field.new.walk) c.in_ok-whole-in-Field.whole) c.field.result c.in_ok-whole-in-Field.ensures.value c.field.ensures.value)

pub typed-returns-in_err-whole-in-Field-clause-value : goal.typed-returns-in_err-whole-in-Field-clause-value
typed-returns-in_err-whole-in-Field-clause-value t c =
    as_kind (seen_program c.args.program.now) (seen_environment c.args.env.now) (seen_changes c.args.over.now) (seen_flow c.args.walk.now) (seen_expr c.args.expr.now) (tree.FieldExpr c.args.expr.now.at (seen_expr c.get-in-Field.result.now) c.in-Field.name) (seen_found (seen_flow c.typed-in-Field.new.walk)) c.from_residual-in_err-whole-in-Field.result (field_of c.args.expr.now c.in-Field.whole c.get-in-Field.result.now c.in-Field.name c.in-Field.is c.get-in-Field.ensures)
    (first_refused (λ k. TypedExpr (seen_program c.args.program.now) (seen_environment c.args.env.now) (seen_expr c.get-in-Field.result.now) (seen_changes c.args.over.now) (seen_flow c.args.walk.now) k) (λ v. FieldOf (types_of c.args.program.now.names) c.args.expr.now.at v c.in-Field.name) (seen_found (seen_flow c.typed-in-Field.new.walk)) c.in_err-whole-in-Field.field-0.0 c.from_residual-in_err-whole-in-Field.result c.in_err-whole-in-Field.ensures.value c.from_residual-in_err-whole-in-Field.ensures.1)

pub typed-returns-in_ok-place-in-Index-clause-value : goal.typed-returns-in_ok-place-in-Index-clause-value
typed-returns-in_ok-place-in-Index-clause-value t c =
    as_kind (seen_program c.args.program.now) (seen_environment c.args.env.now) (seen_changes c.args.over.now) (seen_flow c.args.walk.now) (seen_expr c.args.expr.now) (tree.IndexExpr c.args.expr.now.at (seen_expr c.get-in-Index.result.now) (seen_expr c.get-in-Index-2.result.now)) (seen_found (seen_flow c.index.new.walk)) c.index.result (index_of c.args.expr.now c.in-Index.array c.get-in-Index.result.now c.in-Index.place c.get-in-Index-2.result.now c.in-Index.is c.get-in-Index.ensures c.get-in-Index-2.ensures)
    (next (λ k. TypedExpr (seen_program c.args.program.now) (seen_environment c.args.env.now) (seen_expr c.get-in-Index.result.now) (seen_changes c.args.over.now) (seen_flow c.args.walk.now) k) (λ v. Then (λ k. TypedExpr (seen_program c.args.program.now) (seen_environment c.args.env.now) (seen_expr c.get-in-Index-2.result.now) (seen_changes c.args.over.now) v.flow k) (λ w. IndexOf (types_of c.args.program.now.names) c.args.expr.now.at v w)) (seen_found (seen_flow c.index.new.walk)) (seen_found (seen_flow c.typed-in-Index.new.walk) c.in_ok-array-in-Index.array) c.index.result c.in_ok-array-in-Index.ensures.value
    (next (λ k. TypedExpr (seen_program c.args.program.now) (seen_environment c.args.env.now) (seen_expr c.get-in-Index-2.result.now) (seen_changes c.args.over.now) (seen_flow c.typed-in-Index.new.walk) k) (λ w. IndexOf (types_of c.args.program.now.names) c.args.expr.now.at (seen_found (seen_flow c.typed-in-Index.new.walk) c.in_ok-array-in-Index.array) w) (seen_found (seen_flow c.index.new.walk)) (seen_found (seen_flow c.typed-in-Index-2.new.walk) c.in_ok-place-in-Index.place) c.index.result c.in_ok-place-in-Index.ensures.value c.index.ensures.value))

pub typed-returns-in_err-array-in-Index-clause-value : goal.typed-returns-in_err-array-in-Index-clause-value
typed-returns-in_err-array-in-Index-clause-value t c =
    as_kind (seen_program c.args.program.now) (seen_environment c.args.env.now) (seen_changes c.args.over.now) (seen_flow c.args.walk.now) (seen_expr c.args.expr.now) (tree.IndexExpr c.args.expr.now.at (seen_expr c.get-in-Index.result.now) (seen_expr c.in-Index.place)) (seen_found (seen_flow c.typed-in-Index.new.walk)) c.from_residual-in_err-array-in-Index.result (index_of c.args.expr.now c.in-Index.array c.get-in-Index.result.now c.in-Index.place c.in-Index.place c.in-Index.is c.get-in-Index.ensures refl)
    (first_refused (λ k. TypedExpr (seen_program c.args.program.now) (seen_environment c.args.env.now) (seen_expr c.get-in-Index.result.now) (seen_changes c.args.over.now) (seen_flow c.args.walk.now) k) (λ v. Then (λ k. TypedExpr (seen_program c.args.program.now) (seen_environment c.args.env.now) (seen_expr c.in-Index.place) (seen_changes c.args.over.now) v.flow k) (λ w. IndexOf (types_of c.args.program.now.names) c.args.expr.now.at v w)) (seen_found (seen_flow c.typed-in-Index.new.walk)) c.in_err-array-in-Index.field-0.0 c.from_residual-in_err-array-in-Index.result c.in_err-array-in-Index.ensures.value c.from_residual-in_err-array-in-Index.ensures.1)

pub typed-returns-in_err-place-in-Index-clause-value : goal.typed-returns-in_err-place-in-Index-clause-value
typed-returns-in_err-place-in-Index-clause-value t c =
    as_kind (seen_program c.args.program.now) (seen_environment c.args.env.now) (seen_changes c.args.over.now) (seen_flow c.args.walk.now) (seen_expr c.args.expr.now) (tree.IndexExpr c.args.expr.now.at (seen_expr c.get-in-Index.result.now) (seen_expr c.get-in-Index-2.result.now)) (seen_found (seen_flow c.typed-in-Index-2.new.walk)) c.from_residual-in_err-place-in-Index.result (index_of c.args.expr.now c.in-Index.array c.get-in-Index.result.now c.in-Index.place c.get-in-Index-2.result.now c.in-Index.is c.get-in-Index.ensures c.get-in-Index-2.ensures)
    (next (λ k. TypedExpr (seen_program c.args.program.now) (seen_environment c.args.env.now) (seen_expr c.get-in-Index.result.now) (seen_changes c.args.over.now) (seen_flow c.args.walk.now) k) (λ v. Then (λ k. TypedExpr (seen_program c.args.program.now) (seen_environment c.args.env.now) (seen_expr c.get-in-Index-2.result.now) (seen_changes c.args.over.now) v.flow k) (λ w. IndexOf (types_of c.args.program.now.names) c.args.expr.now.at v w)) (seen_found (seen_flow c.typed-in-Index-2.new.walk)) (seen_found (seen_flow c.typed-in-Index.new.walk) c.in_ok-array-in-Index.array) c.from_residual-in_err-place-in-Index.result c.in_ok-array-in-Index.ensures.value
    (first_refused (λ k. TypedExpr (seen_program c.args.program.now) (seen_environment c.args.env.now) (seen_expr c.get-in-Index-2.result.now) (seen_changes c.args.over.now) (seen_flow c.typed-in-Index.new.walk) k) (λ w. IndexOf (types_of c.args.program.now.names) c.args.expr.now.at (seen_found (seen_flow c.typed-in-Index.new.walk) c.in_ok-array-in-Index.array) w) (seen_found (seen_flow c.typed-in-Index-2.new.walk)) c.in_err-place-in-Index.field-0.0 c.from_residual-in_err-place-in-Index.result c.in_err-place-in-Index.ensures.value c.from_residual-in_err-place-in-Index.ensures.1))

pub typed-returns-in_ok-count-in-Repeat-clause-value : goal.typed-returns-in_ok-count-in-Repeat-clause-value
typed-returns-in_ok-count-in-Repeat-clause-value t c =
    as_kind (seen_program c.args.program.now) (seen_environment c.args.env.now) (seen_changes c.args.over.now) (seen_flow c.args.walk.now) (seen_expr c.args.expr.now) (tree.RepeatExpr c.args.expr.now.at (seen_expr c.get-in-Repeat.result.now) (seen_expr c.get-in-Repeat-2.result.now)) (seen_found (seen_flow c.repeat.new.walk)) c.repeat.result (repeat_of c.args.expr.now c.in-Repeat.item c.get-in-Repeat.result.now c.in-Repeat.count c.get-in-Repeat-2.result.now c.in-Repeat.is c.get-in-Repeat.ensures c.get-in-Repeat-2.ensures)
    (next (λ k. TypedExpr (seen_program c.args.program.now) (seen_environment c.args.env.now) (seen_expr c.get-in-Repeat.result.now) (seen_changes c.args.over.now) (seen_flow c.args.walk.now) k) (λ v. Then (λ k. TypedExpr (seen_program c.args.program.now) (seen_environment c.args.env.now) (seen_expr c.get-in-Repeat-2.result.now) (seen_changes c.args.over.now) v.flow k) (λ w. RepeatOf (types_of c.args.program.now.names) c.args.expr.now.at v w)) (seen_found (seen_flow c.repeat.new.walk)) (seen_found (seen_flow c.typed-in-Repeat.new.walk) c.in_ok-item-in-Repeat.item) c.repeat.result c.in_ok-item-in-Repeat.ensures.value
    (next (λ k. TypedExpr (seen_program c.args.program.now) (seen_environment c.args.env.now) (seen_expr c.get-in-Repeat-2.result.now) (seen_changes c.args.over.now) (seen_flow c.typed-in-Repeat.new.walk) k) (λ w. RepeatOf (types_of c.args.program.now.names) c.args.expr.now.at (seen_found (seen_flow c.typed-in-Repeat.new.walk) c.in_ok-item-in-Repeat.item) w) (seen_found (seen_flow c.repeat.new.walk)) (seen_found (seen_flow c.typed-in-Repeat-2.new.walk) c.in_ok-count-in-Repeat.count) c.repeat.result c.in_ok-count-in-Repeat.ensures.value c.repeat.ensures.value))

pub typed-returns-in_err-item-in-Repeat-clause-value : goal.typed-returns-in_err-item-in-Repeat-clause-value
typed-returns-in_err-item-in-Repeat-clause-value t c =
    as_kind (seen_program c.args.program.now) (seen_environment c.args.env.now) (seen_changes c.args.over.now) (seen_flow c.args.walk.now) (seen_expr c.args.expr.now) (tree.RepeatExpr c.args.expr.now.at (seen_expr c.get-in-Repeat.result.now) (seen_expr c.in-Repeat.count)) (seen_found (seen_flow c.typed-in-Repeat.new.walk)) c.from_residual-in_err-item-in-Repeat.result (repeat_of c.args.expr.now c.in-Repeat.item c.get-in-Repeat.result.now c.in-Repeat.count c.in-Repeat.count c.in-Repeat.is c.get-in-Repeat.ensures refl)
    (first_refused (λ k. TypedExpr (seen_program c.args.program.now) (seen_environment c.args.env.now) (seen_expr c.get-in-Repeat.result.now) (seen_changes c.args.over.now) (seen_flow c.args.walk.now) k) (λ v. Then (λ k. TypedExpr (seen_program c.args.program.now) (seen_environment c.args.env.now) (seen_expr c.in-Repeat.count) (seen_changes c.args.over.now) v.flow k) (λ w. RepeatOf (types_of c.args.program.now.names) c.args.expr.now.at v w)) (seen_found (seen_flow c.typed-in-Repeat.new.walk)) c.in_err-item-in-Repeat.field-0.0 c.from_residual-in_err-item-in-Repeat.result c.in_err-item-in-Repeat.ensures.value c.from_residual-in_err-item-in-Repeat.ensures.1)

pub typed-returns-in_err-count-in-Repeat-clause-value : goal.typed-returns-in_err-count-in-Repeat-clause-value
typed-returns-in_err-count-in-Repeat-clause-value t c =
    as_kind (seen_program c.args.program.now) (seen_environment c.args.env.now) (seen_changes c.args.over.now) (seen_flow c.args.walk.now) (seen_expr c.args.expr.now) (tree.RepeatExpr c.args.expr.now.at (seen_expr c.get-in-Repeat.result.now) (seen_expr c.get-in-Repeat-2.result.now)) (seen_found (seen_flow c.typed-in-Repeat-2.new.walk)) c.from_residual-in_err-count-in-Repeat.result (repeat_of c.args.expr.now c.in-Repeat.item c.get-in-Repeat.result.now c.in-Repeat.count c.get-in-Repeat-2.result.now c.in-Repeat.is c.get-in-Repeat.ensures c.get-in-Repeat-2.ensures)
    (next (λ k. TypedExpr (seen_program c.args.program.now) (seen_environment c.args.env.now) (seen_expr c.get-in-Repeat.result.now) (seen_changes c.args.over.now) (seen_flow c.args.walk.now) k) (λ v. Then (λ k. TypedExpr (seen_program c.args.program.now) (seen_environment c.args.env.now) (seen_expr c.get-in-Repeat-2.result.now) (seen_changes c.args.over.now) v.flow k) (λ w. RepeatOf (types_of c.args.program.now.names) c.args.expr.now.at v w)) (seen_found (seen_flow c.typed-in-Repeat-2.new.walk)) (seen_found (seen_flow c.typed-in-Repeat.new.walk) c.in_ok-item-in-Repeat.item) c.from_residual-in_err-count-in-Repeat.result c.in_ok-item-in-Repeat.ensures.value
    (first_refused (λ k. TypedExpr (seen_program c.args.program.now) (seen_environment c.args.env.now) (seen_expr c.get-in-Repeat-2.result.now) (seen_changes c.args.over.now) (seen_flow c.typed-in-Repeat.new.walk) k) (λ w. RepeatOf (types_of c.args.program.now.names) c.args.expr.now.at (seen_found (seen_flow c.typed-in-Repeat.new.walk) c.in_ok-item-in-Repeat.item) w) (seen_found (seen_flow c.typed-in-Repeat-2.new.walk)) c.in_err-count-in-Repeat.field-0.0 c.from_residual-in_err-count-in-Repeat.result c.in_err-count-in-Repeat.ensures.value c.from_residual-in_err-count-in-Repeat.ensures.1))

pub typed-returns-in_ok-right-in-Binary-clause-value : goal.typed-returns-in_ok-right-in-Binary-clause-value
typed-returns-in_ok-right-in-Binary-clause-value t c =
    as_kind (seen_program c.args.program.now) (seen_environment c.args.env.now) (seen_changes c.args.over.now) (seen_flow c.args.walk.now) (seen_expr c.args.expr.now) (tree.BinaryExpr c.args.expr.now.at c.in-Binary.op (seen_expr c.get-in-Binary.result.now) (seen_expr c.get-in-Binary-2.result.now)) (seen_found (seen_flow c.binary.new.walk)) c.binary.result (binary_of c.args.expr.now c.in-Binary.op c.in-Binary.left c.get-in-Binary.result.now c.in-Binary.right c.get-in-Binary-2.result.now c.in-Binary.is c.get-in-Binary.ensures c.get-in-Binary-2.ensures)
    (next (λ k. TypedExpr (seen_program c.args.program.now) (seen_environment c.args.env.now) (seen_expr c.get-in-Binary.result.now) (seen_changes c.args.over.now) (seen_flow c.args.walk.now) k) (λ v. Then (λ k. TypedExpr (seen_program c.args.program.now) (seen_environment c.args.env.now) (seen_expr c.get-in-Binary-2.result.now) (right_side (seen_changes c.args.over.now) c.in-Binary.op v) v.flow k) (λ w. Binary (types_of c.args.program.now.names) c.args.expr.now.at (seen_environment c.args.env.now) (seen_changes c.args.over.now) c.in-Binary.op v w)) (seen_found (seen_flow c.binary.new.walk)) (seen_found (seen_flow c.typed-in-Binary.new.walk) c.in_ok-left-in-Binary.left) c.binary.result c.in_ok-left-in-Binary.ensures.value
    (next (λ k. TypedExpr (seen_program c.args.program.now) (seen_environment c.args.env.now) (seen_expr c.get-in-Binary-2.result.now) (right_side (seen_changes c.args.over.now) c.in-Binary.op (seen_found (seen_flow c.typed-in-Binary.new.walk) c.in_ok-left-in-Binary.left)) (seen_flow c.typed-in-Binary.new.walk) k) (λ w. Binary (types_of c.args.program.now.names) c.args.expr.now.at (seen_environment c.args.env.now) (seen_changes c.args.over.now) c.in-Binary.op (seen_found (seen_flow c.typed-in-Binary.new.walk) c.in_ok-left-in-Binary.left) w) (seen_found (seen_flow c.binary.new.walk)) (seen_found (seen_flow c.typed-in-Binary-2.new.walk) c.in_ok-right-in-Binary.right) c.binary.result (under (seen_program c.args.program.now) (seen_environment c.args.env.now) (seen_expr c.get-in-Binary-2.result.now) (seen_changes c.as_slice-in-Binary.result.now) (right_side (seen_changes c.args.over.now) c.in-Binary.op (seen_found (seen_flow c.typed-in-Binary.new.walk) c.in_ok-left-in-Binary.left)) (seen_flow c.typed-in-Binary.new.walk) (Gives (seen_found (seen_flow c.typed-in-Binary-2.new.walk) c.in_ok-right-in-Binary.right)) (ap seen_changes c.as_slice-in-Binary.ensures ∙ c.in_ok-inside-in-Binary.ensures.value ∙ right_at (seen_changes c.args.over.now) c.in-Binary.op c.in_ok-left-in-Binary.left [] (seen_flow c.typed-in-Binary.new.walk)) c.in_ok-right-in-Binary.ensures.value)
    (binary_at (types_of c.args.program.now.names) c.args.expr.now.at (seen_environment c.args.env.now) (seen_changes c.args.over.now) c.in-Binary.op c.in_ok-left-in-Binary.left (seen_flow c.typed-in-Binary-2.new.walk) (seen_flow c.typed-in-Binary.new.walk) (seen_found (seen_flow c.typed-in-Binary-2.new.walk) c.in_ok-right-in-Binary.right) (seen_found (seen_flow c.binary.new.walk)) c.binary.result c.binary.ensures.value)))

pub typed-returns-in_err-right-in-Binary-clause-value : goal.typed-returns-in_err-right-in-Binary-clause-value
typed-returns-in_err-right-in-Binary-clause-value t c =
    as_kind (seen_program c.args.program.now) (seen_environment c.args.env.now) (seen_changes c.args.over.now) (seen_flow c.args.walk.now) (seen_expr c.args.expr.now) (tree.BinaryExpr c.args.expr.now.at c.in-Binary.op (seen_expr c.get-in-Binary.result.now) (seen_expr c.get-in-Binary-2.result.now)) (seen_found (seen_flow c.typed-in-Binary-2.new.walk)) c.from_residual-in_err-right-in-Binary.result (binary_of c.args.expr.now c.in-Binary.op c.in-Binary.left c.get-in-Binary.result.now c.in-Binary.right c.get-in-Binary-2.result.now c.in-Binary.is c.get-in-Binary.ensures c.get-in-Binary-2.ensures)
    (next (λ k. TypedExpr (seen_program c.args.program.now) (seen_environment c.args.env.now) (seen_expr c.get-in-Binary.result.now) (seen_changes c.args.over.now) (seen_flow c.args.walk.now) k) (λ v. Then (λ k. TypedExpr (seen_program c.args.program.now) (seen_environment c.args.env.now) (seen_expr c.get-in-Binary-2.result.now) (right_side (seen_changes c.args.over.now) c.in-Binary.op v) v.flow k) (λ w. Binary (types_of c.args.program.now.names) c.args.expr.now.at (seen_environment c.args.env.now) (seen_changes c.args.over.now) c.in-Binary.op v w)) (seen_found (seen_flow c.typed-in-Binary-2.new.walk)) (seen_found (seen_flow c.typed-in-Binary.new.walk) c.in_ok-left-in-Binary.left) c.from_residual-in_err-right-in-Binary.result c.in_ok-left-in-Binary.ensures.value
    (first_refused (λ k. TypedExpr (seen_program c.args.program.now) (seen_environment c.args.env.now) (seen_expr c.get-in-Binary-2.result.now) (right_side (seen_changes c.args.over.now) c.in-Binary.op (seen_found (seen_flow c.typed-in-Binary.new.walk) c.in_ok-left-in-Binary.left)) (seen_flow c.typed-in-Binary.new.walk) k) (λ w. Binary (types_of c.args.program.now.names) c.args.expr.now.at (seen_environment c.args.env.now) (seen_changes c.args.over.now) c.in-Binary.op (seen_found (seen_flow c.typed-in-Binary.new.walk) c.in_ok-left-in-Binary.left) w) (seen_found (seen_flow c.typed-in-Binary-2.new.walk)) c.in_err-right-in-Binary.field-0.0 c.from_residual-in_err-right-in-Binary.result (λ n. (under (seen_program c.args.program.now) (seen_environment c.args.env.now) (seen_expr c.get-in-Binary-2.result.now) (seen_changes c.as_slice-in-Binary.result.now) (right_side (seen_changes c.args.over.now) c.in-Binary.op (seen_found (seen_flow c.typed-in-Binary.new.walk) c.in_ok-left-in-Binary.left)) (seen_flow c.typed-in-Binary.new.walk) (Fails c.in_err-right-in-Binary.field-0.0) (ap seen_changes c.as_slice-in-Binary.ensures ∙ c.in_ok-inside-in-Binary.ensures.value ∙ right_at (seen_changes c.args.over.now) c.in-Binary.op c.in_ok-left-in-Binary.left [] (seen_flow c.typed-in-Binary.new.walk)) (c.in_err-right-in-Binary.ensures.value n))) c.from_residual-in_err-right-in-Binary.ensures.1))

pub typed-returns-in_err-left-in-Binary-clause-value : goal.typed-returns-in_err-left-in-Binary-clause-value
typed-returns-in_err-left-in-Binary-clause-value t c =
    as_kind (seen_program c.args.program.now) (seen_environment c.args.env.now) (seen_changes c.args.over.now) (seen_flow c.args.walk.now) (seen_expr c.args.expr.now) (tree.BinaryExpr c.args.expr.now.at c.in-Binary.op (seen_expr c.get-in-Binary.result.now) (seen_expr c.in-Binary.right)) (seen_found (seen_flow c.typed-in-Binary.new.walk)) c.from_residual-in_err-left-in-Binary.result (binary_of c.args.expr.now c.in-Binary.op c.in-Binary.left c.get-in-Binary.result.now c.in-Binary.right c.in-Binary.right c.in-Binary.is c.get-in-Binary.ensures refl)
    (first_refused (λ k. TypedExpr (seen_program c.args.program.now) (seen_environment c.args.env.now) (seen_expr c.get-in-Binary.result.now) (seen_changes c.args.over.now) (seen_flow c.args.walk.now) k) (λ v. Then (λ k. TypedExpr (seen_program c.args.program.now) (seen_environment c.args.env.now) (seen_expr c.in-Binary.right) (right_side (seen_changes c.args.over.now) c.in-Binary.op v) v.flow k) (λ w. Binary (types_of c.args.program.now.names) c.args.expr.now.at (seen_environment c.args.env.now) (seen_changes c.args.over.now) c.in-Binary.op v w)) (seen_found (seen_flow c.typed-in-Binary.new.walk)) c.in_err-left-in-Binary.field-0.0 c.from_residual-in_err-left-in-Binary.result c.in_err-left-in-Binary.ensures.value c.from_residual-in_err-left-in-Binary.ensures.1)

pub typed-returns-in_ok-body-in-Quant-clause-value : goal.typed-returns-in_ok-body-in-Quant-clause-value
typed-returns-in_ok-body-in-Quant-clause-value t c =
    as_kind (seen_program c.args.program.now) (seen_environment c.args.env.now) (seen_changes c.args.over.now) (seen_flow c.args.walk.now) (seen_expr c.args.expr.now) (tree.QuantExpr c.args.expr.now.at c.in-Quant.field-0 c.in-Quant.variable (seen_expr c.get-in-Quant.result.now) (seen_expr c.get-in-Quant-2.result.now) (seen_expr c.get-in-Quant-3.result.now)) (seen_found (seen_flow c.quant.new.walk)) c.quant.result (quant_of c.args.expr.now c.in-Quant.field-0 c.in-Quant.variable c.in-Quant.from c.get-in-Quant.result.now c.in-Quant.to c.get-in-Quant-2.result.now c.in-Quant.body c.get-in-Quant-3.result.now c.in-Quant.is c.get-in-Quant.ensures c.get-in-Quant-2.ensures c.get-in-Quant-3.ensures)
    (next (λ k. TypedExpr (seen_program c.args.program.now) (seen_environment c.args.env.now) (seen_expr c.get-in-Quant.result.now) (seen_changes c.args.over.now) (seen_flow c.args.walk.now) k) (λ v. Then (λ k. TypedExpr (seen_program c.args.program.now) (seen_environment c.args.env.now) (seen_expr c.get-in-Quant-2.result.now) (seen_changes c.args.over.now) v.flow k) (λ w. Then (λ k. TypedExpr (seen_program c.args.program.now) (seen_environment c.args.env.now) (seen_expr c.get-in-Quant-3.result.now) ((seen_changes c.args.over.now) ++ (c.in-Quant.variable, int_type) ∷ []) w.flow k) (λ u. QuantOf (types_of c.args.program.now.names) c.args.expr.now.at v w u))) (seen_found (seen_flow c.quant.new.walk)) (seen_found (seen_flow c.typed-in-Quant.new.walk) c.in_ok-from-in-Quant.from) c.quant.result c.in_ok-from-in-Quant.ensures.value
    (next (λ k. TypedExpr (seen_program c.args.program.now) (seen_environment c.args.env.now) (seen_expr c.get-in-Quant-2.result.now) (seen_changes c.args.over.now) (seen_flow c.typed-in-Quant.new.walk) k) (λ w. Then (λ k. TypedExpr (seen_program c.args.program.now) (seen_environment c.args.env.now) (seen_expr c.get-in-Quant-3.result.now) ((seen_changes c.args.over.now) ++ (c.in-Quant.variable, int_type) ∷ []) w.flow k) (λ u. QuantOf (types_of c.args.program.now.names) c.args.expr.now.at (seen_found (seen_flow c.typed-in-Quant.new.walk) c.in_ok-from-in-Quant.from) w u)) (seen_found (seen_flow c.quant.new.walk)) (seen_found (seen_flow c.typed-in-Quant-2.new.walk) c.in_ok-to-in-Quant.to) c.quant.result c.in_ok-to-in-Quant.ensures.value
    (next (λ k. TypedExpr (seen_program c.args.program.now) (seen_environment c.args.env.now) (seen_expr c.get-in-Quant-3.result.now) ((seen_changes c.args.over.now) ++ (c.in-Quant.variable, int_type) ∷ []) (seen_flow c.typed-in-Quant-2.new.walk) k) (λ u. QuantOf (types_of c.args.program.now.names) c.args.expr.now.at (seen_found (seen_flow c.typed-in-Quant.new.walk) c.in_ok-from-in-Quant.from) (seen_found (seen_flow c.typed-in-Quant-2.new.walk) c.in_ok-to-in-Quant.to) u) (seen_found (seen_flow c.quant.new.walk)) (seen_found (seen_flow c.typed-in-Quant-3.new.walk) c.in_ok-body-in-Quant.body) c.quant.result (under (seen_program c.args.program.now) (seen_environment c.args.env.now) (seen_expr c.get-in-Quant-3.result.now) (seen_changes c.as_slice-in-Quant.result.now) ((seen_changes c.args.over.now) ++ (c.in-Quant.variable, int_type) ∷ []) (seen_flow c.typed-in-Quant-2.new.walk) (Gives (seen_found (seen_flow c.typed-in-Quant-3.new.walk) c.in_ok-body-in-Quant.body)) (ap seen_changes c.as_slice-in-Quant.ensures ∙ c.in_ok-inside-in-Quant.ensures.value) c.in_ok-body-in-Quant.ensures.value) c.quant.ensures.value)))

pub typed-returns-in_err-body-in-Quant-clause-value : goal.typed-returns-in_err-body-in-Quant-clause-value
typed-returns-in_err-body-in-Quant-clause-value t c =
    as_kind (seen_program c.args.program.now) (seen_environment c.args.env.now) (seen_changes c.args.over.now) (seen_flow c.args.walk.now) (seen_expr c.args.expr.now) (tree.QuantExpr c.args.expr.now.at c.in-Quant.field-0 c.in-Quant.variable (seen_expr c.get-in-Quant.result.now) (seen_expr c.get-in-Quant-2.result.now) (seen_expr c.get-in-Quant-3.result.now)) (seen_found (seen_flow c.typed-in-Quant-3.new.walk)) c.from_residual-in_err-body-in-Quant.result (quant_of c.args.expr.now c.in-Quant.field-0 c.in-Quant.variable c.in-Quant.from c.get-in-Quant.result.now c.in-Quant.to c.get-in-Quant-2.result.now c.in-Quant.body c.get-in-Quant-3.result.now c.in-Quant.is c.get-in-Quant.ensures c.get-in-Quant-2.ensures c.get-in-Quant-3.ensures)
    (next (λ k. TypedExpr (seen_program c.args.program.now) (seen_environment c.args.env.now) (seen_expr c.get-in-Quant.result.now) (seen_changes c.args.over.now) (seen_flow c.args.walk.now) k) (λ v. Then (λ k. TypedExpr (seen_program c.args.program.now) (seen_environment c.args.env.now) (seen_expr c.get-in-Quant-2.result.now) (seen_changes c.args.over.now) v.flow k) (λ w. Then (λ k. TypedExpr (seen_program c.args.program.now) (seen_environment c.args.env.now) (seen_expr c.get-in-Quant-3.result.now) ((seen_changes c.args.over.now) ++ (c.in-Quant.variable, int_type) ∷ []) w.flow k) (λ u. QuantOf (types_of c.args.program.now.names) c.args.expr.now.at v w u))) (seen_found (seen_flow c.typed-in-Quant-3.new.walk)) (seen_found (seen_flow c.typed-in-Quant.new.walk) c.in_ok-from-in-Quant.from) c.from_residual-in_err-body-in-Quant.result c.in_ok-from-in-Quant.ensures.value
    (next (λ k. TypedExpr (seen_program c.args.program.now) (seen_environment c.args.env.now) (seen_expr c.get-in-Quant-2.result.now) (seen_changes c.args.over.now) (seen_flow c.typed-in-Quant.new.walk) k) (λ w. Then (λ k. TypedExpr (seen_program c.args.program.now) (seen_environment c.args.env.now) (seen_expr c.get-in-Quant-3.result.now) ((seen_changes c.args.over.now) ++ (c.in-Quant.variable, int_type) ∷ []) w.flow k) (λ u. QuantOf (types_of c.args.program.now.names) c.args.expr.now.at (seen_found (seen_flow c.typed-in-Quant.new.walk) c.in_ok-from-in-Quant.from) w u)) (seen_found (seen_flow c.typed-in-Quant-3.new.walk)) (seen_found (seen_flow c.typed-in-Quant-2.new.walk) c.in_ok-to-in-Quant.to) c.from_residual-in_err-body-in-Quant.result c.in_ok-to-in-Quant.ensures.value
    (first_refused (λ k. TypedExpr (seen_program c.args.program.now) (seen_environment c.args.env.now) (seen_expr c.get-in-Quant-3.result.now) ((seen_changes c.args.over.now) ++ (c.in-Quant.variable, int_type) ∷ []) (seen_flow c.typed-in-Quant-2.new.walk) k) (λ u. QuantOf (types_of c.args.program.now.names) c.args.expr.now.at (seen_found (seen_flow c.typed-in-Quant.new.walk) c.in_ok-from-in-Quant.from) (seen_found (seen_flow c.typed-in-Quant-2.new.walk) c.in_ok-to-in-Quant.to) u) (seen_found (seen_flow c.typed-in-Quant-3.new.walk)) c.in_err-body-in-Quant.field-0.0 c.from_residual-in_err-body-in-Quant.result (λ n. (under (seen_program c.args.program.now) (seen_environment c.args.env.now) (seen_expr c.get-in-Quant-3.result.now) (seen_changes c.as_slice-in-Quant.result.now) ((seen_changes c.args.over.now) ++ (c.in-Quant.variable, int_type) ∷ []) (seen_flow c.typed-in-Quant-2.new.walk) (Fails c.in_err-body-in-Quant.field-0.0) (ap seen_changes c.as_slice-in-Quant.ensures ∙ c.in_ok-inside-in-Quant.ensures.value) (c.in_err-body-in-Quant.ensures.value n))) c.from_residual-in_err-body-in-Quant.ensures.1)))

pub typed-returns-in_err-to-in-Quant-clause-value : goal.typed-returns-in_err-to-in-Quant-clause-value
typed-returns-in_err-to-in-Quant-clause-value t c =
    as_kind (seen_program c.args.program.now) (seen_environment c.args.env.now) (seen_changes c.args.over.now) (seen_flow c.args.walk.now) (seen_expr c.args.expr.now) (tree.QuantExpr c.args.expr.now.at c.in-Quant.field-0 c.in-Quant.variable (seen_expr c.get-in-Quant.result.now) (seen_expr c.get-in-Quant-2.result.now) (seen_expr c.in-Quant.body)) (seen_found (seen_flow c.typed-in-Quant-2.new.walk)) c.from_residual-in_err-to-in-Quant.result (quant_of c.args.expr.now c.in-Quant.field-0 c.in-Quant.variable c.in-Quant.from c.get-in-Quant.result.now c.in-Quant.to c.get-in-Quant-2.result.now c.in-Quant.body c.in-Quant.body c.in-Quant.is c.get-in-Quant.ensures c.get-in-Quant-2.ensures refl)
    (next (λ k. TypedExpr (seen_program c.args.program.now) (seen_environment c.args.env.now) (seen_expr c.get-in-Quant.result.now) (seen_changes c.args.over.now) (seen_flow c.args.walk.now) k) (λ v. Then (λ k. TypedExpr (seen_program c.args.program.now) (seen_environment c.args.env.now) (seen_expr c.get-in-Quant-2.result.now) (seen_changes c.args.over.now) v.flow k) (λ w. Then (λ k. TypedExpr (seen_program c.args.program.now) (seen_environment c.args.env.now) (seen_expr c.in-Quant.body) ((seen_changes c.args.over.now) ++ (c.in-Quant.variable, int_type) ∷ []) w.flow k) (λ u. QuantOf (types_of c.args.program.now.names) c.args.expr.now.at v w u))) (seen_found (seen_flow c.typed-in-Quant-2.new.walk)) (seen_found (seen_flow c.typed-in-Quant.new.walk) c.in_ok-from-in-Quant.from) c.from_residual-in_err-to-in-Quant.result c.in_ok-from-in-Quant.ensures.value
    (first_refused (λ k. TypedExpr (seen_program c.args.program.now) (seen_environment c.args.env.now) (seen_expr c.get-in-Quant-2.result.now) (seen_changes c.args.over.now) (seen_flow c.typed-in-Quant.new.walk) k) (λ w. Then (λ k. TypedExpr (seen_program c.args.program.now) (seen_environment c.args.env.now) (seen_expr c.in-Quant.body) ((seen_changes c.args.over.now) ++ (c.in-Quant.variable, int_type) ∷ []) w.flow k) (λ u. QuantOf (types_of c.args.program.now.names) c.args.expr.now.at (seen_found (seen_flow c.typed-in-Quant.new.walk) c.in_ok-from-in-Quant.from) w u)) (seen_found (seen_flow c.typed-in-Quant-2.new.walk)) c.in_err-to-in-Quant.field-0.0 c.from_residual-in_err-to-in-Quant.result c.in_err-to-in-Quant.ensures.value c.from_residual-in_err-to-in-Quant.ensures.1))

pub typed-returns-in_err-from-in-Quant-clause-value : goal.typed-returns-in_err-from-in-Quant-clause-value
typed-returns-in_err-from-in-Quant-clause-value t c =
    as_kind (seen_program c.args.program.now) (seen_environment c.args.env.now) (seen_changes c.args.over.now) (seen_flow c.args.walk.now) (seen_expr c.args.expr.now) (tree.QuantExpr c.args.expr.now.at c.in-Quant.field-0 c.in-Quant.variable (seen_expr c.get-in-Quant.result.now) (seen_expr c.in-Quant.to) (seen_expr c.in-Quant.body)) (seen_found (seen_flow c.typed-in-Quant.new.walk)) c.from_residual-in_err-from-in-Quant.result (quant_of c.args.expr.now c.in-Quant.field-0 c.in-Quant.variable c.in-Quant.from c.get-in-Quant.result.now c.in-Quant.to c.in-Quant.to c.in-Quant.body c.in-Quant.body c.in-Quant.is c.get-in-Quant.ensures refl refl)
    (first_refused (λ k. TypedExpr (seen_program c.args.program.now) (seen_environment c.args.env.now) (seen_expr c.get-in-Quant.result.now) (seen_changes c.args.over.now) (seen_flow c.args.walk.now) k) (λ v. Then (λ k. TypedExpr (seen_program c.args.program.now) (seen_environment c.args.env.now) (seen_expr c.in-Quant.to) (seen_changes c.args.over.now) v.flow k) (λ w. Then (λ k. TypedExpr (seen_program c.args.program.now) (seen_environment c.args.env.now) (seen_expr c.in-Quant.body) ((seen_changes c.args.over.now) ++ (c.in-Quant.variable, int_type) ∷ []) w.flow k) (λ u. QuantOf (types_of c.args.program.now.names) c.args.expr.now.at v w u))) (seen_found (seen_flow c.typed-in-Quant.new.walk)) c.in_err-from-in-Quant.field-0.0 c.from_residual-in_err-from-in-Quant.result c.in_err-from-in-Quant.ensures.value c.from_residual-in_err-from-in-Quant.ensures.1)

pub typed_all-loop-expr-preserved : goal.typed_all-loop-expr-preserved
typed_all-loop-expr-preserved t c =
    record {
      over = c.in_ok-found.ensures.over;
      left = exprs_turn (seen_program c.args.program.now) (seen_environment c.args.env.now) (seen_changes c.args.over.now) (seen_flow c.args.walk.now) c.args.exprs.now (seen_flow c.loop-expr.walk) (seen_flow c.typed.new.walk) c.loop-expr.made c.push.new.self c.loop-expr.expr-index c.expr-item.result c.in_ok-found.found c.loop-expr-test.true c.expr-item.is c.in_ok-found.ensures.value c.in_ok-push.ensures.ok c.loop-expr.invariant.left;
    }

pub typed_all-returns-in_err-found-clause-value : goal.typed_all-returns-in_err-found-clause-value
typed_all-returns-in_err-found-clause-value t c =
    refused_on (λ k. TypedExprs (seen_program c.args.program.now) (seen_environment c.args.env.now) (exprs_of (seen_exprs c.args.exprs.now)) (seen_changes c.args.over.now) (none_yet (seen_flow c.args.walk.now)) k) (seen_all (seen_flow c.typed.new.walk)) c.in_err-found.field-0.0 c.from_residual.result (exprs_refused (seen_program c.args.program.now) (seen_environment c.args.env.now) (seen_changes c.args.over.now) (seen_flow c.args.walk.now) c.args.exprs.now (seen_flow c.loop-expr.walk) c.loop-expr.made c.loop-expr.expr-index c.expr-item.result c.in_err-found.field-0.0 c.loop-expr-test.true c.expr-item.is c.in_err-found.ensures.value c.loop-expr.invariant.left) c.from_residual.ensures.1

pub typed_all-returns-clause-value : goal.typed_all-returns-clause-value
typed_all-returns-clause-value t c =
    exprs_end (seen_program c.args.program.now) (seen_environment c.args.env.now) (seen_changes c.args.over.now) (seen_flow c.args.walk.now) c.args.exprs.now (seen_flow c.loop-expr.walk) c.loop-expr.made c.loop-expr.expr-index c.loop-expr-test.false c.loop-expr.invariant.left

pub typed_fields-loop-field-preserved : goal.typed_fields-loop-field-preserved
typed_fields-loop-field-preserved t c =
    record {
      over = c.in_ok-found.ensures.over;
      left = fields_turn (seen_program c.args.program.now) (seen_environment c.args.env.now) (seen_changes c.args.over.now) (seen_flow c.args.walk.now) c.args.fields.now (seen_flow c.loop-field.walk) (seen_flow c.typed.new.walk) c.loop-field.made c.push.new.self c.loop-field.field-index c.field-item.result c.in_ok-name.name c.in_ok-found.found c.loop-field-test.true c.field-item.is c.in_ok-found.ensures.value c.in_ok-name.ensures.value c.in_ok-push.ensures.ok c.loop-field.invariant.left;
    }

pub typed_fields-returns-in_err-found-clause-value : goal.typed_fields-returns-in_err-found-clause-value
typed_fields-returns-in_err-found-clause-value t c =
    refused_on (λ k. TypedFields (seen_program c.args.program.now) (seen_environment c.args.env.now) (seen_fields c.args.fields.now) (seen_changes c.args.over.now) (no_field_yet (seen_flow c.args.walk.now)) k) (seen_all_fields (seen_flow c.typed.new.walk)) c.in_err-found.field-0.0 c.from_residual.result (fields_refused (seen_program c.args.program.now) (seen_environment c.args.env.now) (seen_changes c.args.over.now) (seen_flow c.args.walk.now) c.args.fields.now (seen_flow c.loop-field.walk) c.loop-field.made c.loop-field.field-index c.field-item.result c.in_err-found.field-0.0 c.loop-field-test.true c.field-item.is c.in_err-found.ensures.value c.loop-field.invariant.left) c.from_residual.ensures.1

pub typed_fields-returns-clause-value : goal.typed_fields-returns-clause-value
typed_fields-returns-clause-value t c =
    fields_end (seen_program c.args.program.now) (seen_environment c.args.env.now) (seen_changes c.args.over.now) (seen_flow c.args.walk.now) c.args.fields.now (seen_flow c.loop-field.walk) c.loop-field.made c.loop-field.field-index c.loop-field-test.false c.loop-field.invariant.left
