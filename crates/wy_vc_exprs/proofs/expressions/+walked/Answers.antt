use Rattle.std.proofs.Common.{◌∙◌, ◌+◌, ℕ, ℤ, List, IfOk, ap, subst, refl, take, arith, rules, FitsSigned}
use Rattle.std.specs.Int.{w128}
use Rattle.std.proofs.lemmas.Int.{to_z-of_z}
use Rattle.wy_core.specs.CoreTree as tree
use Rattle.wy_core.specs.declared.expressions.Expr as e
use Rattle.wy_core.specs.CoreTree.{exprs_of}
use Rattle.wy_core.specs.CoreSeen.{seen_expr, seen_exprs, seen_fields, seen_ty}
use Rattle.wy_vc_terms.specs.wy_vc_spec.Sizes.{exprs_in, exprs_in_fields}
use Rattle.wy_vc_terms.specs.wy_vc_spec.Variables.{put}
use Rattle.wy_vc_exprs.specs.Owing.{stay_behind}
use Rattle.wy_vc_exprs.specs.Slots.{slots_of}
use Rattle.wy_vc_exprs.specs.State.{Walks, hyps_of}
use Rattle.wy_vc_exprs.proofs.ResultLemmas.{if_ok}
use Rattle.wy_vc_exprs.proofs.ArmLemmas.{neg_arm, not_arm, len_arm, field_arm, is_arm, index_arm, repeat_arm, binary_arm, quant_arm, call_arm, list_arm, record_arm, flags_of, inner_walk, slots_behind, inner_slots, body_sound, calls_same, names_same}
use Rattle.wy_vc_exprs.specs.Walking.{walk_of}
use Rattle.wy_vc_exprs.proofs.LessLemmas.{right_falls, index_falls, count_falls, to_falls, body_falls}
use Rattle.wy_vc_exprs.proofs.ListLemmas.{exprs_begin, exprs_more, exprs_end, exprs_node, fields_begin, fields_more, fields_end, fields_node, next_expr, no_expr, next_field, no_field, named_numbers, names_made, numbers_more, names_more, names_end}
use Rattle.wy_vc_exprs.proofs.FormLemmas.{as_form, node_behind}
use Rattle.wy_vc_terms.proofs.ExpressionKinds.{null_of, bool_of, int_of, var_of, call_of, neg_of, not_of, len_of, binary_of, is_of, index_of, field_of, list_of, repeat_of, record_of, quant_of}
use Rattle.wy_vc_exprs.proofs.expressions.+walked.Goals as goal

pub walked-returns-in-Null-clause-value : goal.walked-returns-in-Null-clause-value
walked-returns-in-Null-clause-value t c =
    as_form c.args.core.now c.args.program.now c.args.words.now c.args.walk.now.maker.node (slots_of c.args.walk.now.maker.terms c.args.vars.now) c.args.walk.now c.walk_null.new.walk (seen_expr c.args.expr.now) _ c.walk_null.result (null_of c.args.expr.now c.in-Null.is)
    (c.walk_null.ensures.value)

pub walked-returns-in-Bool-clause-value : goal.walked-returns-in-Bool-clause-value
walked-returns-in-Bool-clause-value t c =
    as_form c.args.core.now c.args.program.now c.args.words.now c.args.walk.now.maker.node (slots_of c.args.walk.now.maker.terms c.args.vars.now) c.args.walk.now c.walk_truth.new.walk (seen_expr c.args.expr.now) _ c.walk_truth.result (bool_of c.args.expr.now c.in-Bool.b c.in-Bool.is)
    (c.walk_truth.ensures.value)

pub walked-returns-in-Int-clause-value : goal.walked-returns-in-Int-clause-value
walked-returns-in-Int-clause-value t c =
    let fits : FitsSigned w128 c.in-Int.z = search rules in
    as_form c.args.core.now c.args.program.now c.args.words.now c.args.walk.now.maker.node (slots_of c.args.walk.now.maker.terms c.args.vars.now) c.args.walk.now c.walk_whole.new.walk (seen_expr c.args.expr.now) _ c.walk_whole.result (int_of c.args.expr.now c.in-Int.z c.in-Int.is)
    (subst (λ (z : ℤ). IfOk c.walk_whole.result (λ r. Walks c.args.walk.now c.walk_whole.new.walk r (walk_of c.args.core.now c.args.program.now c.args.words.now (tree.IntExpr c.args.expr.now.at z) c.args.walk.now.maker.node (slots_of c.args.walk.now.maker.terms c.args.vars.now) (hyps_of c.args.walk.now) c.args.walk.now.maker.count))) (to_z-of_z w128 c.in-Int.z fits) c.walk_whole.ensures.value)

pub walked-returns-in-Var-clause-value : goal.walked-returns-in-Var-clause-value
walked-returns-in-Var-clause-value t c =
    as_form c.args.core.now c.args.program.now c.args.words.now c.args.walk.now.maker.node (slots_of c.args.walk.now.maker.terms c.args.vars.now) c.args.walk.now c.walk_variable.new.walk (seen_expr c.args.expr.now) _ c.walk_variable.result (var_of c.args.expr.now c.in-Var.x c.in-Var.is)
    (c.walk_variable.ensures.value)

pub walked-returns-in_ok-v-in-Neg-clause-value : goal.walked-returns-in_ok-v-in-Neg-clause-value
walked-returns-in_ok-v-in-Neg-clause-value t c =
    as_form c.args.core.now c.args.program.now c.args.words.now c.args.walk.now.maker.node (slots_of c.args.walk.now.maker.terms c.args.vars.now) c.args.walk.now c.walk_neg.new.walk (seen_expr c.args.expr.now) _ c.walk_neg.result (neg_of c.args.expr.now c.in-Neg.a c.get.result.now c.in-Neg.is c.get.ensures)
    (if_ok c.walk_neg.result _ _ c.walk_neg.ensures.value (λ r s. neg_arm c.args.core.now c.args.program.now c.args.words.now c.args.expr.now.at (seen_expr c.get.result.now) c.args.walk.now.maker.node (slots_of c.args.walk.now.maker.terms c.args.vars.now) c.args.walk.now c.walked.new.walk c.walk_neg.new.walk c.in_ok-v-in-Neg.v r c.in_ok-v-in-Neg.ensures.value s))

pub walked-returns-in_ok-v-in-Not-clause-value : goal.walked-returns-in_ok-v-in-Not-clause-value
walked-returns-in_ok-v-in-Not-clause-value t c =
    as_form c.args.core.now c.args.program.now c.args.words.now c.args.walk.now.maker.node (slots_of c.args.walk.now.maker.terms c.args.vars.now) c.args.walk.now c.walk_not.new.walk (seen_expr c.args.expr.now) _ c.walk_not.result (not_of c.args.expr.now c.in-Not.a c.get-in-Not.result.now c.in-Not.is c.get-in-Not.ensures)
    (if_ok c.walk_not.result _ _ c.walk_not.ensures.value (λ r s. not_arm c.args.core.now c.args.program.now c.args.words.now c.args.expr.now.at (seen_expr c.get-in-Not.result.now) c.args.walk.now.maker.node (slots_of c.args.walk.now.maker.terms c.args.vars.now) c.args.walk.now c.walked-in-Not.new.walk c.walk_not.new.walk c.in_ok-v-in-Not.v r c.in_ok-v-in-Not.ensures.value s))

pub walked-returns-in_ok-v-in-Len-clause-value : goal.walked-returns-in_ok-v-in-Len-clause-value
walked-returns-in_ok-v-in-Len-clause-value t c =
    as_form c.args.core.now c.args.program.now c.args.words.now c.args.walk.now.maker.node (slots_of c.args.walk.now.maker.terms c.args.vars.now) c.args.walk.now c.walk_len.new.walk (seen_expr c.args.expr.now) _ c.walk_len.result (len_of c.args.expr.now c.in-Len.a c.get-in-Len.result.now c.in-Len.is c.get-in-Len.ensures)
    (if_ok c.walk_len.result _ _ c.walk_len.ensures.value (λ r s. len_arm c.args.core.now c.args.program.now c.args.words.now c.args.expr.now.at (seen_expr c.get-in-Len.result.now) c.args.walk.now.maker.node (slots_of c.args.walk.now.maker.terms c.args.vars.now) c.args.walk.now c.walked-in-Len.new.walk c.walk_len.new.walk c.in_ok-v-in-Len.v r c.in_ok-v-in-Len.ensures.value s))

pub walked-returns-in_ok-v-in-Field-clause-value : goal.walked-returns-in_ok-v-in-Field-clause-value
walked-returns-in_ok-v-in-Field-clause-value t c =
    as_form c.args.core.now c.args.program.now c.args.words.now c.args.walk.now.maker.node (slots_of c.args.walk.now.maker.terms c.args.vars.now) c.args.walk.now c.walk_field.new.walk (seen_expr c.args.expr.now) _ c.walk_field.result (field_of c.args.expr.now c.in-Field.a c.get-in-Field.result.now c.in-Field.name c.in-Field.is c.get-in-Field.ensures)
    (if_ok c.walk_field.result _ _ c.walk_field.ensures.value (λ r s. field_arm c.args.core.now c.args.program.now c.args.words.now c.args.expr.now.at (seen_expr c.get-in-Field.result.now) c.in-Field.name c.args.walk.now.maker.node (slots_of c.args.walk.now.maker.terms c.args.vars.now) c.args.walk.now c.walked-in-Field.new.walk c.walk_field.new.walk c.in_ok-v-in-Field.v r c.in_ok-v-in-Field.ensures.value s))

pub walked-returns-in_ok-v-in-Is-clause-value : goal.walked-returns-in_ok-v-in-Is-clause-value
walked-returns-in_ok-v-in-Is-clause-value t c =
    as_form c.args.core.now c.args.program.now c.args.words.now c.args.walk.now.maker.node (slots_of c.args.walk.now.maker.terms c.args.vars.now) c.args.walk.now c.walk_is.new.walk (seen_expr c.args.expr.now) _ c.walk_is.result (is_of c.args.expr.now c.in-Is.a c.get-in-Is.result.now c.in-Is.ty c.in-Is.is c.get-in-Is.ensures)
    (if_ok c.walk_is.result _ _ c.walk_is.ensures.value (λ r s. is_arm c.args.core.now c.args.program.now c.args.words.now c.args.expr.now.at (seen_expr c.get-in-Is.result.now) (seen_ty c.in-Is.ty) c.args.walk.now.maker.node (slots_of c.args.walk.now.maker.terms c.args.vars.now) c.args.walk.now c.walked-in-Is.new.walk c.walk_is.new.walk c.in_ok-v-in-Is.v r c.in_ok-v-in-Is.ensures.value s))

pub walked-returns-in_ok-w-in-Index-clause-value : goal.walked-returns-in_ok-w-in-Index-clause-value
walked-returns-in_ok-w-in-Index-clause-value t c =
    as_form c.args.core.now c.args.program.now c.args.words.now c.args.walk.now.maker.node (slots_of c.args.walk.now.maker.terms c.args.vars.now) c.args.walk.now c.walk_index.new.walk (seen_expr c.args.expr.now) _ c.walk_index.result (index_of c.args.expr.now c.in-Index.a c.get-in-Index.result.now c.in-Index.b c.get-in-Index-2.result.now c.in-Index.is c.get-in-Index.ensures c.get-in-Index-2.ensures)
    (if_ok c.walk_index.result _ _ c.walk_index.ensures.value (λ r s. index_arm c.args.core.now c.args.program.now c.args.words.now c.args.expr.now.at (seen_expr c.get-in-Index.result.now) (seen_expr c.get-in-Index-2.result.now) c.args.walk.now.maker.node c.walked-in-Index.new.walk.maker.node c.args.vars.now c.args.walk.now c.walked-in-Index.new.walk c.walked-in-Index-2.new.walk c.walk_index.new.walk c.in_ok-v-in-Index.v c.in_ok-w-in-Index.w r c.requires.slots c.in_ok-v-in-Index.ensures.node c.in_ok-v-in-Index.ensures.value c.in_ok-w-in-Index.ensures.value s))

pub walked-returns-in_ok-w-in-Repeat-clause-value : goal.walked-returns-in_ok-w-in-Repeat-clause-value
walked-returns-in_ok-w-in-Repeat-clause-value t c =
    as_form c.args.core.now c.args.program.now c.args.words.now c.args.walk.now.maker.node (slots_of c.args.walk.now.maker.terms c.args.vars.now) c.args.walk.now c.walk_repeat.new.walk (seen_expr c.args.expr.now) _ c.walk_repeat.result (repeat_of c.args.expr.now c.in-Repeat.a c.get-in-Repeat.result.now c.in-Repeat.b c.get-in-Repeat-2.result.now c.in-Repeat.is c.get-in-Repeat.ensures c.get-in-Repeat-2.ensures)
    (if_ok c.walk_repeat.result _ _ c.walk_repeat.ensures.value (λ r s. repeat_arm c.args.core.now c.args.program.now c.args.words.now c.args.expr.now.at (seen_expr c.get-in-Repeat.result.now) (seen_expr c.get-in-Repeat-2.result.now) c.args.walk.now.maker.node c.walked-in-Repeat.new.walk.maker.node c.args.vars.now c.args.walk.now c.walked-in-Repeat.new.walk c.walked-in-Repeat-2.new.walk c.walk_repeat.new.walk c.in_ok-v-in-Repeat.v c.in_ok-w-in-Repeat.w r c.requires.slots c.in_ok-v-in-Repeat.ensures.node c.in_ok-v-in-Repeat.ensures.value c.in_ok-w-in-Repeat.ensures.value s))

pub walked-returns-in_ok-w-in-Binary-clause-value : goal.walked-returns-in_ok-w-in-Binary-clause-value
walked-returns-in_ok-w-in-Binary-clause-value t c =
    as_form c.args.core.now c.args.program.now c.args.words.now c.args.walk.now.maker.node (slots_of c.args.walk.now.maker.terms c.args.vars.now) c.args.walk.now c.walk_binary.new.walk (seen_expr c.args.expr.now) _ c.walk_binary.result (binary_of c.args.expr.now c.in-Binary.op c.in-Binary.a c.get-in-Binary.result.now c.in-Binary.b c.get-in-Binary-2.result.now c.in-Binary.is c.get-in-Binary.ensures c.get-in-Binary-2.ensures)
    (if_ok c.walk_binary.result _ _ c.walk_binary.ensures.value (λ r s. binary_arm c.args.core.now c.args.program.now c.args.words.now c.args.expr.now.at c.in-Binary.op (seen_expr c.get-in-Binary.result.now) (seen_expr c.get-in-Binary-2.result.now) c.both-numbers.result c.args.walk.now.maker.node c.assume_left.new.walk.maker.node c.args.vars.now c.args.walk.now c.walked-in-Binary.new.walk c.assume_left.new.walk c.walked-in-Binary-2.new.walk c.forget_right.new.walk c.walk_binary.new.walk c.in_ok-v-in-Binary.v c.in_ok-w-in-Binary.w r c.requires.slots
    (c.in_ok-assume_left-in-Binary.ensures.node ∙ c.in_ok-v-in-Binary.ensures.node)
    (flags_of c.args.core.now c.args.program.now (seen_expr c.get-in-Binary.result.now) (seen_expr c.get-in-Binary-2.result.now) c.args.walk.now.maker.node c.walked-in-Binary.new.walk.maker.node c.walked-in-Binary-2.new.walk.maker.node c.is_number-first.result c.is_number-second.result c.both-numbers.result c.both-numbers.ensures.value c.in_ok-v-in-Binary.ensures.node (c.in_ok-w-in-Binary.ensures.node ∙ ap (λ n. n + exprs_in (seen_expr c.get-in-Binary-2.result.now)) (c.in_ok-assume_left-in-Binary.ensures.node ∙ c.in_ok-v-in-Binary.ensures.node)) c.is_number-first.ensures.value c.is_number-second.ensures.value)
    c.in_ok-v-in-Binary.ensures.value c.in_ok-assume_left-in-Binary.ensures.value c.in_ok-w-in-Binary.ensures.value c.forget_right.ensures.maker c.forget_right.ensures.owed (c.forget_right.ensures.hyps ∙ ap (λ n. stay_behind c.in-Binary.op (take n c.walked-in-Binary-2.new.walk.hyps.items) c.walked-in-Binary-2.new.walk.hyps.items) c.mark-count.ensures.value) s))

pub walked-returns-in_ok-u-in-Quant-clause-value : goal.walked-returns-in_ok-u-in-Quant-clause-value
walked-returns-in_ok-u-in-Quant-clause-value t c =
    as_form c.args.core.now c.args.program.now c.args.words.now c.args.walk.now.maker.node (slots_of c.args.walk.now.maker.terms c.args.vars.now) c.args.walk.now c.walk_quantified.new.walk (seen_expr c.args.expr.now) _ c.walk_quantified.result (quant_of c.args.expr.now c.in-Quant.all c.in-Quant.x c.in-Quant.a c.get-in-Quant.result.now c.in-Quant.b c.get-in-Quant-2.result.now c.in-Quant.body c.get-in-Quant-3.result.now c.in-Quant.is c.get-in-Quant.ensures c.get-in-Quant-2.ensures c.get-in-Quant-3.ensures)
    (if_ok c.walk_quantified.result _ _ c.walk_quantified.ensures.value (λ r s. quant_arm c.args.core.now c.args.program.now c.args.words.now c.args.expr.now.at c.in-Quant.all c.in-Quant.x (seen_expr c.get-in-Quant.result.now) (seen_expr c.get-in-Quant-2.result.now) (seen_expr c.get-in-Quant-3.result.now) c.args.walk.now.maker.node c.walked-in-Quant.new.walk.maker.node c.begin_range.new.walk.maker.node c.args.vars.now c.args.walk.now c.walked-in-Quant.new.walk c.walked-in-Quant-2.new.walk c.begin_range.new.walk c.walked-in-Quant-3.new.walk c.back_to.new.self c.walk_quantified.new.walk c.in_ok-v-in-Quant.v c.in_ok-w-in-Quant.w c.in_ok-u-in-Quant.u c.in_ok-bound-in-Quant.bound r c.requires.slots c.in_ok-v-in-Quant.ensures.node
    (c.in_ok-bound-in-Quant.ensures.node ∙ c.in_ok-w-in-Quant.ensures.node ∙ ap (λ n. n + exprs_in (seen_expr c.get-in-Quant-2.result.now)) c.in_ok-v-in-Quant.ensures.node)
    c.in_ok-v-in-Quant.ensures.value c.in_ok-w-in-Quant.ensures.value c.in_ok-bound-in-Quant.ensures.value c.in_ok-bound-in-Quant.ensures.bound (inner_walk c.args.core.now c.args.program.now c.args.words.now (seen_expr c.get-in-Quant-3.result.now) c.begin_range.new.walk c.walked-in-Quant-3.new.walk c.in_ok-u-in-Quant.u (put c.args.vars.now c.in-Quant.x c.in_ok-bound-in-Quant.bound) c.as_slice-in-Quant.result.now (c.as_slice-in-Quant.ensures.value ∙ c.in_ok-put-in-Quant.ensures.value ∙ ap (λ vs. put vs c.in-Quant.x c.in_ok-bound-in-Quant.bound) c.in_ok-inner-in-Quant.ensures.items) c.in_ok-u-in-Quant.ensures.value) c.back_to.ensures.maker c.back_to.ensures.owed (c.back_to.ensures.hyps ∙ ap (λ n. take n c.walked-in-Quant-3.new.walk.hyps.items) c.mark-count-in-Quant.ensures.value) s))

pub walked-returns-in_ok-args-in-Call-clause-value : goal.walked-returns-in_ok-args-in-Call-clause-value
walked-returns-in_ok-args-in-Call-clause-value t c =
    as_form c.args.core.now c.args.program.now c.args.words.now c.args.walk.now.maker.node (slots_of c.args.walk.now.maker.terms c.args.vars.now) c.args.walk.now c.walk_call.new.walk (seen_expr c.args.expr.now) _ c.walk_call.result (call_of c.args.expr.now c.in-Call.routine c.in-Call.args c.as_slice.result.now c.in-Call.is c.as_slice.ensures)
    (if_ok c.walk_call.result _ _ c.walk_call.ensures.value (λ r s. call_arm c.args.core.now c.args.program.now c.args.words.now c.args.expr.now.at c.in-Call.routine (exprs_of (seen_exprs c.as_slice.result.now)) c.args.walk.now.maker.node (slots_of c.args.walk.now.maker.terms c.args.vars.now) c.args.walk.now c.walked_all.new.walk c.walk_call.new.walk c.in_ok-args-in-Call.args.items r c.in_ok-args-in-Call.ensures.value (calls_same c.args.core.now c.args.program.now c.in-Call.routine c.args.expr.now.at c.walked_all.new.walk c.walk_call.new.walk r c.in_ok-args-in-Call.args.items c.as_slice-in-Call.result.now c.as_slice-in-Call.ensures.value s)))

pub walked-returns-in_ok-items-in-List-clause-value : goal.walked-returns-in_ok-items-in-List-clause-value
walked-returns-in_ok-items-in-List-clause-value t c =
    as_form c.args.core.now c.args.program.now c.args.words.now c.args.walk.now.maker.node (slots_of c.args.walk.now.maker.terms c.args.vars.now) c.args.walk.now c.walk_list.new.walk (seen_expr c.args.expr.now) _ c.walk_list.result (list_of c.args.expr.now c.in-List.items c.as_slice-in-List.result.now c.in-List.is c.as_slice-in-List.ensures)
    (if_ok c.walk_list.result _ _ c.walk_list.ensures.value (λ r s. list_arm c.args.core.now c.args.program.now c.args.words.now c.args.expr.now.at (exprs_of (seen_exprs c.as_slice-in-List.result.now)) c.args.walk.now.maker.node (slots_of c.args.walk.now.maker.terms c.args.vars.now) c.args.walk.now c.walked_all-in-List.new.walk c.walk_list.new.walk c.in_ok-items-in-List.items.items r c.in_ok-items-in-List.ensures.value s))

pub walked-returns-in_ok-fields-in-Record-clause-value : goal.walked-returns-in_ok-fields-in-Record-clause-value
walked-returns-in_ok-fields-in-Record-clause-value t c =
    as_form c.args.core.now c.args.program.now c.args.words.now c.args.walk.now.maker.node (slots_of c.args.walk.now.maker.terms c.args.vars.now) c.args.walk.now c.walk_record.new.walk (seen_expr c.args.expr.now) _ c.walk_record.result (record_of c.args.expr.now c.in-Record.fields c.as_slice-in-Record.result.now c.in-Record.is c.as_slice-in-Record.ensures)
    (if_ok c.walk_record.result _ _ c.walk_record.ensures.value (λ r s. record_arm c.args.core.now c.args.program.now c.args.words.now c.args.expr.now.at (seen_fields c.as_slice-in-Record.result.now) c.args.walk.now.maker.node (slots_of c.args.walk.now.maker.terms c.args.vars.now) c.args.walk.now c.walked_fields.new.walk c.walk_record.new.walk c.in_ok-fields-in-Record.fields.items r (names_same c.as_slice-in-Record.result.now c.args.walk.now.maker.node c.in_ok-fields-in-Record.fields.items c.in_ok-fields-in-Record.ensures.names) c.in_ok-fields-in-Record.ensures.value s))

pub walked_all-loop-expr-preserved : goal.walked_all-loop-expr-preserved
walked_all-loop-expr-preserved t c =
    exprs_more c.args.core.now c.args.program.now c.args.words.now c.args.walk.now c.loop-expr.walk c.walked.new.walk c.args.vars.now c.loop-expr.made.items c.push.new.self.items c.in_ok-v.v (seen_expr c.expr-item.result) _ _ _
    (next_expr c.args.exprs.now c.loop-expr.expr-index c.expr-item.result c.loop-expr-test.true c.expr-item.is) c.requires.slots c.in_ok-push.ensures.items c.loop-expr.invariant c.in_ok-v.ensures.value c.in_ok-v.ensures.node

pub walked_all-returns-clause-value : goal.walked_all-returns-clause-value
walked_all-returns-clause-value t c =
    exprs_end c.args.core.now c.args.program.now c.args.words.now c.args.walk.now c.loop-expr.walk c.args.vars.now c.loop-expr.made.items _ _ (no_expr c.args.exprs.now c.loop-expr.expr-index c.loop-expr-test.false) c.loop-expr.invariant

pub walked_all-returns-clause-node : goal.walked_all-returns-clause-node
walked_all-returns-clause-node t c =
    exprs_node c.args.core.now c.args.program.now c.args.words.now c.args.walk.now c.loop-expr.walk c.args.vars.now c.loop-expr.made.items _ _ (no_expr c.args.exprs.now c.loop-expr.expr-index c.loop-expr-test.false) c.loop-expr.invariant

pub walked_all-loop-expr-init : goal.walked_all-loop-expr-init
walked_all-loop-expr-init t c = exprs_begin c.args.core.now c.args.program.now c.args.words.now c.args.walk.now c.args.vars.now c.new-made.result.items _ c.new-made.ensures.items c.requires.sound c.requires.slots

pub walked_fields-loop-field-init : goal.walked_fields-loop-field-init
walked_fields-loop-field-init t c = (
  fields_begin c.args.core.now c.args.program.now c.args.words.now c.args.walk.now c.args.vars.now (named_numbers c.new-made.result.items) _ (ap (λ (fs : List (List ℕ × ℕ)). named_numbers fs) c.new-made.ensures.items) c.requires.sound c.requires.slots,
  ap (λ (fs : List (List ℕ × ℕ)). names_made fs) c.new-made.ensures.items,
)

pub walked_fields-loop-field-preserved : goal.walked_fields-loop-field-preserved
walked_fields-loop-field-preserved t c = (
  fields_more c.args.core.now c.args.program.now c.args.words.now c.args.walk.now c.loop-field.walk c.walked.new.walk c.args.vars.now (named_numbers c.loop-field.made.items) (named_numbers c.push.new.self.items) c.in_ok-v.v c.field-item.result.0 (seen_expr c.field-item.result.1) _ _ _
      (next_field c.args.fields.now c.loop-field.field-index c.field-item.result c.loop-field-test.true c.field-item.is) c.requires.slots (numbers_more _ _ _ _ c.in_ok-push.ensures.items) c.loop-field.invariant.0 c.in_ok-v.ensures.value c.in_ok-v.ensures.node,
  names_more _ _ _ _ c.args.fields.now c.loop-field.field-index c.field-item.result c.in_ok-push.ensures.items c.in_ok-copy.ensures.value c.loop-field-test.true c.field-item.is c.loop-field.invariant.1,
)

pub walked_fields-returns-clause-value : goal.walked_fields-returns-clause-value
walked_fields-returns-clause-value t c =
    let w = fields_end c.args.core.now c.args.program.now c.args.words.now c.args.walk.now c.loop-field.walk c.args.vars.now (named_numbers c.loop-field.made.items) _ _ (no_field c.args.fields.now c.loop-field.field-index c.loop-field-test.false) c.loop-field.invariant.0 in
    record { steps = w.steps; are = w.are }

pub walked_fields-returns-clause-names : goal.walked_fields-returns-clause-names
walked_fields-returns-clause-names t c = names_end c.loop-field.made.items c.args.fields.now c.loop-field.field-index c.loop-field-test.false c.loop-field.invariant.1

pub walked_fields-returns-clause-node : goal.walked_fields-returns-clause-node
walked_fields-returns-clause-node t c =
    fields_node c.args.core.now c.args.program.now c.args.words.now c.args.walk.now c.loop-field.walk c.args.vars.now (named_numbers c.loop-field.made.items) _ _ (no_field c.args.fields.now c.loop-field.field-index c.loop-field-test.false) c.loop-field.invariant.0

pub walked-returns-in_ok-fields-in-Record-clause-node : goal.walked-returns-in_ok-fields-in-Record-clause-node
walked-returns-in_ok-fields-in-Record-clause-node t c =
    node_behind (seen_expr c.args.expr.now) (tree.RecordExpr c.args.expr.now.at (seen_fields c.as_slice-in-Record.result.now)) c.walk_record.result c.args.walk.now.maker.node c.walked_fields.new.walk.maker.node c.walk_record.new.walk.maker.node (exprs_in_fields (seen_fields c.as_slice-in-Record.result.now))
    c.walk_record.ensures.node c.in_ok-fields-in-Record.ensures.node refl (record_of c.args.expr.now c.in-Record.fields c.as_slice-in-Record.result.now c.in-Record.is c.as_slice-in-Record.ensures)

-- ---- what calls ask

pub walked-walked-requires-in-Index-2 : goal.walked-walked-requires-in-Index-2
walked-walked-requires-in-Index-2 t c = (
  let falls = index_falls c.args.expr.now c.in-Index.a c.in-Index.b c.get-in-Index-2.result.now c.in-Index.is c.get-in-Index-2.ensures in
      first_of (omega (arith, c.decreases, falls), search (rules, falls), grind (arith, c.decreases, falls), search (rules, e.the_lemmas)),
  (
    c.requires.described,
    (
      c.in_ok-v-in-Index.ensures.value.steps.sound,
      slots_behind c.args.walk.now c.walked-in-Index.new.walk _ c.args.vars.now c.in_ok-v-in-Index.ensures.value.steps c.requires.slots,
    ),
  ),
)

pub walked-walked-requires-in-Repeat-2 : goal.walked-walked-requires-in-Repeat-2
walked-walked-requires-in-Repeat-2 t c = (
  let falls = count_falls c.args.expr.now c.in-Repeat.a c.in-Repeat.b c.get-in-Repeat-2.result.now c.in-Repeat.is c.get-in-Repeat-2.ensures in
      first_of (omega (arith, c.decreases, falls), search (rules, falls), grind (arith, c.decreases, falls), search (rules, e.the_lemmas)),
  (
    c.requires.described,
    (
      c.in_ok-v-in-Repeat.ensures.value.steps.sound,
      slots_behind c.args.walk.now c.walked-in-Repeat.new.walk _ c.args.vars.now c.in_ok-v-in-Repeat.ensures.value.steps c.requires.slots,
    ),
  ),
)

pub walked-walked-requires-in-Quant-2 : goal.walked-walked-requires-in-Quant-2
walked-walked-requires-in-Quant-2 t c = (
  let falls = to_falls c.args.expr.now c.in-Quant.all c.in-Quant.x c.in-Quant.a c.in-Quant.b c.in-Quant.body c.get-in-Quant-2.result.now c.in-Quant.is c.get-in-Quant-2.ensures in
      first_of (omega (arith, c.decreases, falls), search (rules, falls), grind (arith, c.decreases, falls), search (rules, e.the_lemmas)),
  (
    c.requires.described,
    (
      c.in_ok-v-in-Quant.ensures.value.steps.sound,
      slots_behind c.args.walk.now c.walked-in-Quant.new.walk _ c.args.vars.now c.in_ok-v-in-Quant.ensures.value.steps c.requires.slots,
    ),
  ),
)

pub walked-walked-requires-in-Binary-2 : goal.walked-walked-requires-in-Binary-2
walked-walked-requires-in-Binary-2 t c = (
  let falls = right_falls c.args.expr.now c.in-Binary.op c.in-Binary.a c.in-Binary.b c.get-in-Binary-2.result.now c.in-Binary.is c.get-in-Binary-2.ensures in
      first_of (omega (arith, c.decreases, falls), search (rules, falls), grind (arith, c.decreases, falls), search (rules, e.the_lemmas)),
  (
    c.requires.described,
    (
      c.in_ok-assume_left-in-Binary.ensures.value.sound,
      slots_behind c.walked-in-Binary.new.walk c.assume_left.new.walk _ c.args.vars.now c.in_ok-assume_left-in-Binary.ensures.value
          (slots_behind c.args.walk.now c.walked-in-Binary.new.walk _ c.args.vars.now c.in_ok-v-in-Binary.ensures.value.steps c.requires.slots),
    ),
  ),
)

pub walked-walked-requires-in-Quant-3 : goal.walked-walked-requires-in-Quant-3
walked-walked-requires-in-Quant-3 t c = (
  let falls = body_falls c.args.expr.now c.in-Quant.all c.in-Quant.x c.in-Quant.a c.in-Quant.b c.in-Quant.body c.get-in-Quant-3.result.now c.in-Quant.is c.get-in-Quant-3.ensures in
      first_of (omega (arith, c.decreases, falls), search (rules, falls), grind (arith, c.decreases, falls), search (rules, e.the_lemmas)),
  (
    c.requires.described,
    (
      c.in_ok-bound-in-Quant.ensures.value.sound,
      inner_slots c.walked-in-Quant-2.new.walk c.begin_range.new.walk _ c.args.vars.now c.as_slice-in-Quant.result.now c.in-Quant.x c.in_ok-bound-in-Quant.bound c.in_ok-bound-in-Quant.ensures.value
          (slots_behind c.walked-in-Quant.new.walk c.walked-in-Quant-2.new.walk _ c.args.vars.now c.in_ok-w-in-Quant.ensures.value.steps (slots_behind c.args.walk.now c.walked-in-Quant.new.walk _ c.args.vars.now c.in_ok-v-in-Quant.ensures.value.steps c.requires.slots))
          (c.as_slice-in-Quant.ensures.value ∙ c.in_ok-put-in-Quant.ensures.value ∙ ap (λ vs. put vs c.in-Quant.x c.in_ok-bound-in-Quant.bound) c.in_ok-inner-in-Quant.ensures.items) c.in_ok-bound-in-Quant.ensures.bound.within,
    ),
  ),
)

pub walked-walk_quantified-requires-clause-sound : goal.walked-walk_quantified-requires-clause-sound
walked-walk_quantified-requires-clause-sound t c =
    body_sound c.walked-in-Quant-2.new.walk c.begin_range.new.walk c.walked-in-Quant-3.new.walk c.back_to.new.self _ _ c.in_ok-w-in-Quant.ensures.value.steps.sound c.in_ok-bound-in-Quant.ensures.value c.in_ok-u-in-Quant.ensures.value.steps
    c.back_to.ensures.maker c.back_to.ensures.owed (c.back_to.ensures.hyps ∙ ap (λ n. take n c.walked-in-Quant-3.new.walk.hyps.items) c.mark-count-in-Quant.ensures.value)
