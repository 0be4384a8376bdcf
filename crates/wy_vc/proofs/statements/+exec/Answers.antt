use Rattle.std.proofs.Common.{◌+◌, ◌∙◌, List, ℕ, map, Option, Some, None, refl, sym, ap, subst, arith, rules}
use Rattle.wy_core.specs.CoreSeen.{seen_block, seen_expr, seen_exprs, seen_option, seen_step, seen_stmt, seen_ty}
use Rattle.wy_core.specs.CoreTree as tree
use Rattle.wy_core.specs.declared.statements.Stmt as st
use Rattle.std.proofs.lemmas.Grind.{common_steps}
use Rattle.wy_vc_spec.specs.Numbered.{numbered_option, numbered_stmt}
use Rattle.wy_vc_spec.specs.Statements as spec
use Rattle.wy_vc_body.specs.declared.here.Here.{Here}
use Rattle.wy_vc.specs.Flows.{Flows}
use Rattle.wy_vc_spec.specs.Sizes.{exprs_in, exprs_in_all, exprs_in_block, exprs_in_list, exprs_in_option, exprs_in_path, exprs_in_stmt}
use Rattle.wy_vc_body.specs.Frames.{body_at}
use Rattle.wy_vc_body.proofs.FrameLemmas.{frame_on}
use Rattle.wy_vc_body.proofs.PathLemmas.{paths_on}
use Rattle.wy_vc_body.specs.Paths.{spot_of}
use Rattle.wy_core_lemmas.proofs.BlockDepths.{body_falls, first_falls, second_falls}
use Rattle.wy_vc_body.proofs.SeenLemmas.{seen_assert, seen_break, seen_continue, seen_declare, seen_fail, seen_return, seen_skip}
use Rattle.wy_vc_body.specs.wy_vc_exprs.Slots.{AreSlots}
use Rattle.wy_vc_body.proofs.wy_vc_exprs_proofs.NumberedLemmas.{kept_then}
use Rattle.wy_vc_body.proofs.wy_vc_exprs_proofs.ResultLemmas.{if_ok, on_ok}
use Rattle.wy_vc_body.proofs.wy_vc_exprs_proofs.SlotLemmas.{slots_on}
use Rattle.wy_vc.specs.Rounds.{around}
use Rattle.wy_vc.proofs.CycleLemmas.{as_form, declare_breaks, fork_base, fork_on, form_node, if_at, if_node, quiet_value, return_breaks, round_on, skipped, turn_base, turn_on, while_at, while_node}
use Rattle.wy_vc.proofs.EndLemmas.{end_are}
use Rattle.wy_vc.proofs.FlowLemmas.{node_end, node_stop, within_begin, within_end, within_stop, within_turn}
use Rattle.wy_vc.proofs.FormLemmas.{assign_of, call_of, if_of, while_of}
use Rattle.wy_vc.proofs.statements.+exec.Goals as goal
use Rattle.wy_vc_body.proofs.wy_vc_operations_proofs.GrowingLemmas.{here_kept}

pub exec-returns-in-Declare-clause-value : goal.exec-returns-in-Declare-clause-value
exec-returns-in-Declare-clause-value t c =
    quiet_value (body_at c.args.walk.now.maker.terms c.args.frame.now) (around c.args.round.now) c.args.walk.now.maker.node (seen_stmt c.args.stmt.now) (tree.DeclareStmt c.args.stmt.now.at (seen_ty c.in-Declare.ty) c.in-Declare.x (seen_option c.in-Declare.value)) (spot_of c.args.walk.now c.args.here) c.args.walk.now.maker.count c.args.walk.now c.declare.new.walk c.args.round.now.base c.args.breaks.now.items c.declare.result (seen_declare c.args.stmt.now c.in-Declare.ty c.in-Declare.x c.in-Declare.value c.in-Declare.is) (declare_breaks (body_at c.args.walk.now.maker.terms c.args.frame.now) (around c.args.round.now) c.args.stmt.now.at (seen_ty c.in-Declare.ty) c.in-Declare.x (numbered_option (seen_option c.in-Declare.value) c.args.walk.now.maker.node) (spot_of c.args.walk.now c.args.here) c.args.walk.now.maker.count) c.requires.sound c.requires.breaks (c.declare.ensures.value (around c.args.round.now))

pub exec-returns-in-Declare-clause-node : goal.exec-returns-in-Declare-clause-node
exec-returns-in-Declare-clause-node t c =
    form_node (seen_stmt c.args.stmt.now) (tree.DeclareStmt c.args.stmt.now.at (seen_ty c.in-Declare.ty) c.in-Declare.x (seen_option c.in-Declare.value)) c.args.walk.now.maker.node c.declare.new.walk.maker.node (c.args.walk.now.maker.node + exprs_in_option (seen_option c.in-Declare.value)) c.declare.result (seen_declare c.args.stmt.now c.in-Declare.ty c.in-Declare.x c.in-Declare.value c.in-Declare.is) (omega arith) c.declare.ensures.node

pub exec-returns-in-Assign-clause-value : goal.exec-returns-in-Assign-clause-value
exec-returns-in-Assign-clause-value t c =
    quiet_value (body_at c.args.walk.now.maker.terms c.args.frame.now) (around c.args.round.now) c.args.walk.now.maker.node (seen_stmt c.args.stmt.now) (tree.AssignStmt c.args.stmt.now.at c.in-Assign.x (map seen_step c.as_slice.result.now) (seen_expr c.in-Assign.value)) (spot_of c.args.walk.now c.args.here) c.args.walk.now.maker.count c.args.walk.now c.assign_part.new.walk c.args.round.now.base c.args.breaks.now.items c.assign_part.result (assign_of c.args.stmt.now c.in-Assign.x c.in-Assign.path c.as_slice.result.now c.in-Assign.value c.in-Assign.is c.as_slice.ensures) refl c.requires.sound c.requires.breaks (c.assign_part.ensures.value (around c.args.round.now))

pub exec-returns-in-Assign-clause-node : goal.exec-returns-in-Assign-clause-node
exec-returns-in-Assign-clause-node t c =
    form_node (seen_stmt c.args.stmt.now) (tree.AssignStmt c.args.stmt.now.at c.in-Assign.x (map seen_step c.as_slice.result.now) (seen_expr c.in-Assign.value)) c.args.walk.now.maker.node c.assign_part.new.walk.maker.node (c.args.walk.now.maker.node + exprs_in_path (map seen_step c.as_slice.result.now) + exprs_in (seen_expr c.in-Assign.value)) c.assign_part.result (assign_of c.args.stmt.now c.in-Assign.x c.in-Assign.path c.as_slice.result.now c.in-Assign.value c.in-Assign.is c.as_slice.ensures) (omega arith) c.assign_part.ensures.node

pub exec-returns-in-Call-clause-value : goal.exec-returns-in-Call-clause-value
exec-returns-in-Call-clause-value t c =
    quiet_value (body_at c.args.walk.now.maker.terms c.args.frame.now) (around c.args.round.now) c.args.walk.now.maker.node (seen_stmt c.args.stmt.now) (tree.CallStmt c.args.stmt.now.at c.in-Call.routine (tree.exprs_of (seen_exprs c.as_slice-in-Call.result.now))) (spot_of c.args.walk.now c.args.here) c.args.walk.now.maker.count c.args.walk.now c.call_method.new.walk c.args.round.now.base c.args.breaks.now.items c.call_method.result (call_of c.args.stmt.now c.in-Call.routine c.in-Call.args c.as_slice-in-Call.result.now c.in-Call.is c.as_slice-in-Call.ensures) refl c.requires.sound c.requires.breaks (c.call_method.ensures.value (around c.args.round.now))

pub exec-returns-in-Call-clause-node : goal.exec-returns-in-Call-clause-node
exec-returns-in-Call-clause-node t c =
    form_node (seen_stmt c.args.stmt.now) (tree.CallStmt c.args.stmt.now.at c.in-Call.routine (tree.exprs_of (seen_exprs c.as_slice-in-Call.result.now))) c.args.walk.now.maker.node c.call_method.new.walk.maker.node (c.args.walk.now.maker.node + exprs_in_all (tree.exprs_of (seen_exprs c.as_slice-in-Call.result.now))) c.call_method.result (call_of c.args.stmt.now c.in-Call.routine c.in-Call.args c.as_slice-in-Call.result.now c.in-Call.is c.as_slice-in-Call.ensures) (omega arith) c.call_method.ensures.node

pub exec-returns-in-Return-clause-value : goal.exec-returns-in-Return-clause-value
exec-returns-in-Return-clause-value t c =
    quiet_value (body_at c.args.walk.now.maker.terms c.args.frame.now) (around c.args.round.now) c.args.walk.now.maker.node (seen_stmt c.args.stmt.now) (tree.ReturnStmt c.args.stmt.now.at (seen_option c.in-Return.value)) (spot_of c.args.walk.now c.args.here) c.args.walk.now.maker.count c.args.walk.now c.leave_body.new.walk c.args.round.now.base c.args.breaks.now.items c.leave_body.result (seen_return c.args.stmt.now c.in-Return.value c.in-Return.is) (return_breaks (body_at c.args.walk.now.maker.terms c.args.frame.now) (around c.args.round.now) c.args.stmt.now.at (numbered_option (seen_option c.in-Return.value) c.args.walk.now.maker.node) (spot_of c.args.walk.now c.args.here) c.args.walk.now.maker.count) c.requires.sound c.requires.breaks (c.leave_body.ensures.value (around c.args.round.now))

pub exec-returns-in-Return-clause-node : goal.exec-returns-in-Return-clause-node
exec-returns-in-Return-clause-node t c =
    form_node (seen_stmt c.args.stmt.now) (tree.ReturnStmt c.args.stmt.now.at (seen_option c.in-Return.value)) c.args.walk.now.maker.node c.leave_body.new.walk.maker.node (c.args.walk.now.maker.node + exprs_in_option (seen_option c.in-Return.value)) c.leave_body.result (seen_return c.args.stmt.now c.in-Return.value c.in-Return.is) (omega arith) c.leave_body.ensures.node

pub exec-returns-in-Assert-clause-value : goal.exec-returns-in-Assert-clause-value
exec-returns-in-Assert-clause-value t c =
    quiet_value (body_at c.args.walk.now.maker.terms c.args.frame.now) (around c.args.round.now) c.args.walk.now.maker.node (seen_stmt c.args.stmt.now) (tree.AssertStmt c.args.stmt.now.at (seen_expr c.in-Assert.test)) (spot_of c.args.walk.now c.args.here) c.args.walk.now.maker.count c.args.walk.now c.hold.new.walk c.args.round.now.base c.args.breaks.now.items c.hold.result (seen_assert c.args.stmt.now c.in-Assert.test c.in-Assert.is) refl c.requires.sound c.requires.breaks (c.hold.ensures.value (around c.args.round.now))

pub exec-returns-in-Assert-clause-node : goal.exec-returns-in-Assert-clause-node
exec-returns-in-Assert-clause-node t c =
    form_node (seen_stmt c.args.stmt.now) (tree.AssertStmt c.args.stmt.now.at (seen_expr c.in-Assert.test)) c.args.walk.now.maker.node c.hold.new.walk.maker.node (c.args.walk.now.maker.node + exprs_in (seen_expr c.in-Assert.test)) c.hold.result (seen_assert c.args.stmt.now c.in-Assert.test c.in-Assert.is) (omega arith) c.hold.ensures.node

pub exec-returns-in-Continue-clause-value : goal.exec-returns-in-Continue-clause-value
exec-returns-in-Continue-clause-value t c =
    quiet_value (body_at c.args.walk.now.maker.terms c.args.frame.now) (around c.args.round.now) c.args.walk.now.maker.node (seen_stmt c.args.stmt.now) (tree.ContinueStmt c.args.stmt.now.at) (spot_of c.args.walk.now c.args.here) c.args.walk.now.maker.count c.args.walk.now c.turn_again.new.walk c.args.round.now.base c.args.breaks.now.items c.turn_again.result (seen_continue c.args.stmt.now c.in-Continue.is) refl c.requires.sound c.requires.breaks c.turn_again.ensures.value

pub exec-returns-in-Continue-clause-node : goal.exec-returns-in-Continue-clause-node
exec-returns-in-Continue-clause-node t c =
    form_node (seen_stmt c.args.stmt.now) (tree.ContinueStmt c.args.stmt.now.at) c.args.walk.now.maker.node c.turn_again.new.walk.maker.node (c.args.walk.now.maker.node) c.turn_again.result (seen_continue c.args.stmt.now c.in-Continue.is) (omega arith) c.turn_again.ensures.node

pub exec-returns-in-Fail-clause-value : goal.exec-returns-in-Fail-clause-value
exec-returns-in-Fail-clause-value t c =
    quiet_value (body_at c.args.walk.now.maker.terms c.args.frame.now) (around c.args.round.now) c.args.walk.now.maker.node (seen_stmt c.args.stmt.now) (tree.FailStmt c.args.stmt.now.at) (spot_of c.args.walk.now c.args.here) c.args.walk.now.maker.count c.args.walk.now c.never.new.walk c.args.round.now.base c.args.breaks.now.items c.never.result (seen_fail c.args.stmt.now c.in-Fail.is) refl c.requires.sound c.requires.breaks (c.never.ensures.value (body_at c.args.walk.now.maker.terms c.args.frame.now) (around c.args.round.now) c.args.here)

pub exec-returns-in-Fail-clause-node : goal.exec-returns-in-Fail-clause-node
exec-returns-in-Fail-clause-node t c =
    form_node (seen_stmt c.args.stmt.now) (tree.FailStmt c.args.stmt.now.at) c.args.walk.now.maker.node c.never.new.walk.maker.node (c.args.walk.now.maker.node) c.never.result (seen_fail c.args.stmt.now c.in-Fail.is) (omega arith) c.never.ensures.node

pub exec-returns-in_ok-break_out-in-Break-clause-value : goal.exec-returns-in_ok-break_out-in-Break-clause-value
exec-returns-in_ok-break_out-in-Break-clause-value t c =
    as_form (body_at c.args.walk.now.maker.terms c.args.frame.now) (around c.args.round.now) c.args.walk.now.maker.node (seen_stmt c.args.stmt.now) (tree.BreakStmt c.args.stmt.now.at) (spot_of c.args.walk.now c.args.here) c.args.walk.now.maker.count c.args.walk.now c.args.walk.now c.args.round.now.base c.args.breaks.now.items c.break_out.new.breaks.items None (seen_break c.args.stmt.now c.in-Break.is) c.in_ok-break_out-in-Break.ensures.value

pub exec-returns-in-Skip-clause-value : goal.exec-returns-in-Skip-clause-value
exec-returns-in-Skip-clause-value t c =
    as_form (body_at c.args.walk.now.maker.terms c.args.frame.now) (around c.args.round.now) c.args.walk.now.maker.node (seen_stmt c.args.stmt.now) (tree.SkipStmt c.args.stmt.now.at) (spot_of c.args.walk.now c.args.here) c.args.walk.now.maker.count c.args.walk.now c.args.walk.now c.args.round.now.base c.args.breaks.now.items c.args.breaks.now.items (Some c.args.here) (seen_skip c.args.stmt.now c.in-Skip.is) (skipped c.args.walk.now c.args.round.now.base c.args.breaks.now.items c.args.here c.requires.sound c.requires.slots c.requires.breaks)

pub exec-returns-in_ok-end-in-If-clause-value : goal.exec-returns-in_ok-end-in-If-clause-value
exec-returns-in_ok-end-in-If-clause-value t c =
    if_ok c.end_if.result _ _ c.end_if.ensures.value
    (λ h s. as_form (body_at c.args.walk.now.maker.terms c.args.frame.now) (around c.args.round.now) c.args.walk.now.maker.node (seen_stmt c.args.stmt.now) (tree.IfStmt c.args.stmt.now.at (seen_expr c.in-If.test) (seen_block c.as_slice-first.result.now) (seen_block c.as_slice-second.result.now)) (spot_of c.args.walk.now c.args.here) c.args.walk.now.maker.count c.args.walk.now c.end_if.new.walk c.args.round.now.base c.args.breaks.now.items c.exec_block-in-If.new.breaks.items h (if_of c.args.stmt.now c.in-If.test c.in-If.first c.in-If.second c.as_slice-first.result.now c.as_slice-second.result.now c.in-If.is c.as_slice-first.ensures c.as_slice-second.ensures)
    (if_at c.args.frame.now (around c.args.round.now) c.args.stmt.now.at (seen_expr c.in-If.test) (seen_block c.as_slice-first.result.now) (seen_block c.as_slice-second.result.now) c.args.walk.now c.begin_if.new.walk c.exec_block.new.walk c.begin_else.new.walk c.exec_block-in-If.new.walk c.end_if.new.walk c.args.here c.in_ok-fork-in-If.fork c.args.round.now.base c.args.breaks.now.items c.exec_block.new.breaks.items c.exec_block-in-If.new.breaks.items c.in_ok-paths-in-If.paths.items c.in_ok-taken-in-If.taken c.in_ok-end-in-If.end h
    c.requires.frame c.requires.sound c.requires.slots c.requires.base c.requires.breaks c.in_ok-fork-in-If.ensures.node c.in_ok-taken-in-If.ensures.node c.in_ok-paths-in-If.ensures.node c.in_ok-fork-in-If.ensures.value c.in_ok-taken-in-If.ensures.value c.in_ok-paths-in-If.ensures.value c.in_ok-end-in-If.ensures.value s))

pub exec-returns-in_ok-end-in-If-clause-node : goal.exec-returns-in_ok-end-in-If-clause-node
exec-returns-in_ok-end-in-If-clause-node t c =
    on_ok c.end_if.result _ _ c.end_if.ensures.node
    (λ s. if_node c.args.walk.now.maker.node c.begin_if.new.walk.maker.node c.exec_block.new.walk.maker.node c.begin_else.new.walk.maker.node c.exec_block-in-If.new.walk.maker.node c.end_if.new.walk.maker.node (exprs_in (seen_expr c.in-If.test)) (exprs_in_block (seen_block c.as_slice-first.result.now)) (exprs_in_block (seen_block c.as_slice-second.result.now))
    c.in_ok-fork-in-If.ensures.node c.in_ok-taken-in-If.ensures.node c.in_ok-paths-in-If.ensures.node c.in_ok-end-in-If.ensures.node s
    ∙ sym (ap (λ (y : tree.Stmt ℕ). c.args.walk.now.maker.node + exprs_in_stmt y) (if_of c.args.stmt.now c.in-If.test c.in-If.first c.in-If.second c.as_slice-first.result.now c.as_slice-second.result.now c.in-If.is c.as_slice-first.ensures c.as_slice-second.ensures)))

pub exec-returns-in_ok-end-in-While-clause-value : goal.exec-returns-in_ok-end-in-While-clause-value
exec-returns-in_ok-end-in-While-clause-value t c =
    if_ok c.end_loop.result _ _ c.end_loop.ensures.value
    (λ h s. as_form (body_at c.args.walk.now.maker.terms c.args.frame.now) (around c.args.round.now) c.args.walk.now.maker.node (seen_stmt c.args.stmt.now) (tree.WhileStmt c.args.stmt.now.at (seen_expr c.in-While.test) (seen_exprs c.as_slice-invariants.result.now) (seen_block c.as_slice-body.result.now)) (spot_of c.args.walk.now c.args.here) c.args.walk.now.maker.count c.args.walk.now c.end_loop.new.walk c.args.round.now.base c.args.breaks.now.items c.args.breaks.now.items h (while_of c.args.stmt.now c.in-While.test c.in-While.invariants c.as_slice-invariants.result.now c.in-While.body c.as_slice-body.result.now c.in-While.is c.as_slice-invariants.ensures c.as_slice-body.ensures)
    (while_at c.args.frame.now (around c.args.round.now) c.args.stmt.now.at (seen_expr c.in-While.test) c.as_slice-invariants.result.now (seen_block c.as_slice-body.result.now) c.args.walk.now c.begin_loop.new.walk c.exec_block-in-While.new.walk c.end_loop.new.walk c.args.here c.in_ok-head-in-While.head c.args.round.now.base c.args.breaks.now.items c.exec_block-in-While.new.breaks.items c.in_ok-end-in-While.end h
    c.requires.frame c.requires.sound c.requires.breaks c.in_ok-head-in-While.ensures.first c.in_ok-head-in-While.ensures.node c.in_ok-head-in-While.ensures.value c.in_ok-end-in-While.ensures.value s))

pub exec-returns-in_ok-end-in-While-clause-node : goal.exec-returns-in_ok-end-in-While-clause-node
exec-returns-in_ok-end-in-While-clause-node t c =
    on_ok c.end_loop.result _ _ c.end_loop.ensures.node
    (λ s. while_node c.args.walk.now.maker.node c.begin_loop.new.walk.maker.node c.exec_block-in-While.new.walk.maker.node c.end_loop.new.walk.maker.node (exprs_in (seen_expr c.in-While.test)) (exprs_in_list (seen_exprs c.as_slice-invariants.result.now)) (exprs_in_block (seen_block c.as_slice-body.result.now))
    c.in_ok-head-in-While.ensures.node c.in_ok-end-in-While.ensures.node s
    ∙ sym (ap (λ (y : tree.Stmt ℕ). c.args.walk.now.maker.node + exprs_in_stmt y) (while_of c.args.stmt.now c.in-While.test c.in-While.invariants c.as_slice-invariants.result.now c.in-While.body c.as_slice-body.result.now c.in-While.is c.as_slice-invariants.ensures c.as_slice-body.ensures)))

pub exec-exec_block-requires : goal.exec-exec_block-requires
exec-exec_block-requires t c = (
  first_of (omega (arith, c.decreases, first_falls c.args.stmt.now c.in-If.test c.in-If.first c.in-If.second c.as_slice-first.result.now c.in-If.is c.as_slice-first.ensures), grind (arith, c.decreases, first_falls c.args.stmt.now c.in-If.test c.in-If.first c.in-If.second c.as_slice-first.result.now c.in-If.is c.as_slice-first.ensures), search (rules, first_falls c.args.stmt.now c.in-If.test c.in-If.first c.in-If.second c.as_slice-first.result.now c.in-If.is c.as_slice-first.ensures)),
  (frame_on c.args.walk.now.maker.terms c.begin_if.new.walk.maker.terms c.in_ok-fork-in-If.ensures.value.steps.kept c.args.frame.now c.requires.frame, (c.in_ok-fork-in-If.ensures.value.steps.sound, (slots_on c.args.walk.now.maker.terms c.begin_if.new.walk.maker.terms c.in_ok-fork-in-If.ensures.value.steps.kept c.args.here.vars.items c.requires.slots, (fork_base c.args.walk.now c.begin_if.new.walk c.args.here c.in_ok-fork-in-If.fork _ c.args.round.now.base c.in_ok-fork-in-If.ensures.value c.requires.base, paths_on c.args.walk.now.maker.terms c.begin_if.new.walk.maker.terms c.in_ok-fork-in-If.ensures.value.steps.kept c.args.breaks.now.items c.requires.breaks)))),
)

pub exec-exec_block-requires-in-If : goal.exec-exec_block-requires-in-If
exec-exec_block-requires-in-If t c =
    let kept_ac = kept_then c.in_ok-fork-in-If.ensures.value.steps.kept c.in_ok-taken-in-If.ensures.value.went.kept in
    let kept_ad = kept_then kept_ac c.in_ok-paths-in-If.ensures.value.moves.kept in (
      first_of (omega (arith, c.decreases, second_falls c.args.stmt.now c.in-If.test c.in-If.first c.in-If.second c.as_slice-second.result.now c.in-If.is c.as_slice-second.ensures), grind (arith, c.decreases, second_falls c.args.stmt.now c.in-If.test c.in-If.first c.in-If.second c.as_slice-second.result.now c.in-If.is c.as_slice-second.ensures), search (rules, second_falls c.args.stmt.now c.in-If.test c.in-If.first c.in-If.second c.as_slice-second.result.now c.in-If.is c.as_slice-second.ensures)),
      (frame_on c.args.walk.now.maker.terms c.begin_else.new.walk.maker.terms kept_ad c.args.frame.now c.requires.frame, (c.in_ok-paths-in-If.ensures.value.moves.sound, (subst (λ (vs : List (Option ℕ)). AreSlots c.begin_else.new.walk.maker.terms vs) (sym c.in_ok-fork-in-If.ensures.value.vars) (slots_on c.args.walk.now.maker.terms c.begin_else.new.walk.maker.terms kept_ad c.args.here.vars.items c.requires.slots), (turn_base c.args.walk.now c.begin_if.new.walk c.exec_block.new.walk c.begin_else.new.walk c.args.here c.in_ok-fork-in-If.fork _ c.args.round.now.base _ _ c.in_ok-fork-in-If.ensures.value c.in_ok-paths-in-If.ensures.value c.requires.base, paths_on c.exec_block.new.walk.maker.terms c.begin_else.new.walk.maker.terms c.in_ok-paths-in-If.ensures.value.moves.kept c.exec_block.new.breaks.items c.in_ok-taken-in-If.ensures.value.paths)))),
    )

pub exec-exec_block-requires-in-While : goal.exec-exec_block-requires-in-While
exec-exec_block-requires-in-While t c =
    let begins = c.in_ok-head-in-While.ensures.value 0 in (
      first_of (omega (arith, c.decreases, body_falls c.args.stmt.now c.in-While.test c.in-While.invariants c.in-While.body c.as_slice-body.result.now c.in-While.is c.as_slice-body.ensures), grind (arith, c.decreases, body_falls c.args.stmt.now c.in-While.test c.in-While.invariants c.in-While.body c.as_slice-body.result.now c.in-While.is c.as_slice-body.ensures), search (rules, body_falls c.args.stmt.now c.in-While.test c.in-While.invariants c.in-While.body c.as_slice-body.result.now c.in-While.is c.as_slice-body.ensures)),
      (frame_on c.args.walk.now.maker.terms c.begin_loop.new.walk.maker.terms begins.moves.kept c.args.frame.now c.requires.frame, (begins.moves.sound, (begins.spot.slots, (begins.within, begins.are)))),
    )

pub exec-begin_else-requires-clause-sound : goal.exec-begin_else-requires-clause-sound
exec-begin_else-requires-clause-sound t c =
    c.in_ok-taken-in-If.ensures.value.went.sound

pub exec-begin_else-requires-clause-base : goal.exec-begin_else-requires-clause-base
exec-begin_else-requires-clause-base t c =
    fork_on c.args.walk.now c.begin_if.new.walk c.exec_block.new.walk c.args.here c.in_ok-fork-in-If.fork _ c.args.round.now.base c.args.breaks.now.items c.exec_block.new.breaks.items _ _ c.in_ok-fork-in-If.ensures.value c.in_ok-taken-in-If.ensures.value

pub exec-begin_else-requires-clause-within : goal.exec-begin_else-requires-clause-within
exec-begin_else-requires-clause-within t c =
    (here_kept c.in_ok-taken-in-If.ensures.value.went.kept c.in_ok-fork-in-If.ensures.value.fails).within

pub exec-begin_else-requires-clause-end : goal.exec-begin_else-requires-clause-end
exec-begin_else-requires-clause-end t c =
    end_are c.exec_block.new.walk c.in_ok-taken-in-If.taken _ c.in_ok-taken-in-If.ensures.value.went.ends

pub exec-end_if-requires-clause-sound : goal.exec-end_if-requires-clause-sound
exec-end_if-requires-clause-sound t c =
    c.in_ok-end-in-If.ensures.value.went.sound

pub exec-end_if-requires-clause-base : goal.exec-end_if-requires-clause-base
exec-end_if-requires-clause-base t c =
    turn_on c.exec_block.new.walk c.begin_else.new.walk c.exec_block-in-If.new.walk c.in_ok-fork-in-If.fork.base c.in_ok-fork-in-If.fork.fails c.args.round.now.base c.exec_block.new.breaks.items c.exec_block-in-If.new.breaks.items _ _ _ _ c.in_ok-paths-in-If.ensures.value c.in_ok-end-in-If.ensures.value

pub exec-end_if-requires-clause-paths : goal.exec-end_if-requires-clause-paths
exec-end_if-requires-clause-paths t c =
    paths_on c.begin_else.new.walk.maker.terms c.exec_block-in-If.new.walk.maker.terms c.in_ok-end-in-If.ensures.value.went.kept c.in_ok-paths-in-If.paths.items c.in_ok-paths-in-If.ensures.value.are

pub exec-end_if-requires-clause-end : goal.exec-end_if-requires-clause-end
exec-end_if-requires-clause-end t c =
    end_are c.exec_block-in-If.new.walk c.in_ok-end-in-If.end _ c.in_ok-end-in-If.ensures.value.went.ends

pub exec-end_loop-requires-clause-frame : goal.exec-end_loop-requires-clause-frame
exec-end_loop-requires-clause-frame t c =
    frame_on c.args.walk.now.maker.terms c.exec_block-in-While.new.walk.maker.terms (kept_then (c.in_ok-head-in-While.ensures.value 0).moves.kept c.in_ok-end-in-While.ensures.value.went.kept) c.args.frame.now c.requires.frame

pub exec-end_loop-requires-clause-sound : goal.exec-end_loop-requires-clause-sound
exec-end_loop-requires-clause-sound t c =
    c.in_ok-end-in-While.ensures.value.went.sound

pub exec-end_loop-requires-clause-base : goal.exec-end_loop-requires-clause-base
exec-end_loop-requires-clause-base t c =
    round_on c.args.walk.now c.begin_loop.new.walk c.exec_block-in-While.new.walk c.in_ok-head-in-While.head _ _ _ _ _ (c.in_ok-head-in-While.ensures.value 0) c.in_ok-end-in-While.ensures.value

pub exec-end_loop-requires-clause-breaks : goal.exec-end_loop-requires-clause-breaks
exec-end_loop-requires-clause-breaks t c =
    c.in_ok-end-in-While.ensures.value.paths

pub exec-end_loop-requires-clause-end : goal.exec-end_loop-requires-clause-end
exec-end_loop-requires-clause-end t c =
    end_are c.exec_block-in-While.new.walk c.in_ok-end-in-While.end _ c.in_ok-end-in-While.ensures.value.went.ends

pub exec_block-exec-requires : goal.exec_block-exec-requires
exec_block-exec-requires t c =
    let inv = c.loop-index.invariant in
    (first_of (search rules, search (rules, st.the_lemmas), omega (arith, c.decreases), grind (arith, c.decreases), grind (arith, common_steps, c.decreases), grind (arith, common_steps, st.the_lemmas)), (inv.frame, (inv.sound, (inv.slots, (inv.base, inv.paths)))))

pub exec_block-loop-index-init : goal.exec_block-loop-index-init
exec_block-loop-index-init t c =
    within_begin c.args.frame.now (around c.args.round.now) c.args.walk.now c.args.round.now.base c.args.breaks.now.items c.args.here c.args.block.now c.requires.frame c.requires.sound c.requires.slots c.requires.base c.requires.breaks

pub exec_block-loop-index-preserved : goal.exec_block-loop-index-preserved
exec_block-loop-index-preserved t c =
    within_turn c.args.frame.now (around c.args.round.now) c.args.walk.now c.loop-index.walk c.exec.new.walk c.args.round.now.base c.args.breaks.now.items c.loop-index.breaks.items c.exec.new.breaks.items c.loop-index.here c.args.here c.in-Some.next c.args.block.now c.args.block.now c.loop-index.index c.index-block-index.result c.loop-index-test.true c.index-block-index.is c.requires.frame c.requires.base c.loop-index.invariant (subst (λ (o : Option Here). Flows c.loop-index.walk c.exec.new.walk c.args.round.now.base c.loop-index.breaks.items c.exec.new.breaks.items o (spec.exec (body_at c.loop-index.walk.maker.terms c.args.frame.now) (around c.args.round.now) (numbered_stmt (seen_stmt c.index-block-index.result) c.loop-index.walk.maker.node) (spot_of c.loop-index.walk c.loop-index.here) c.loop-index.walk.maker.count)) c.in-Some.is c.in_ok-end.ensures.value) c.in_ok-end.ensures.node

pub exec_block-returns-in-None-clause-value : goal.exec_block-returns-in-None-clause-value
exec_block-returns-in-None-clause-value t c =
    within_stop c.args.frame.now (around c.args.round.now) c.args.walk.now c.loop-index.walk c.exec.new.walk c.pass_over.new.walk c.args.round.now.base c.args.breaks.now.items c.loop-index.breaks.items c.exec.new.breaks.items c.loop-index.here c.args.here c.args.block.now c.args.block.now c.loop-index.index c.index-block-index.result c.loop-index-test.true c.index-block-index.is c.requires.frame c.requires.base c.loop-index.invariant (subst (λ (o : Option Here). Flows c.loop-index.walk c.exec.new.walk c.args.round.now.base c.loop-index.breaks.items c.exec.new.breaks.items o (spec.exec (body_at c.loop-index.walk.maker.terms c.args.frame.now) (around c.args.round.now) (numbered_stmt (seen_stmt c.index-block-index.result) c.loop-index.walk.maker.node) (spot_of c.loop-index.walk c.loop-index.here) c.loop-index.walk.maker.count)) c.in-None.is c.in_ok-end.ensures.value) c.in_ok-pass_over-in-None.ensures.terms c.in_ok-pass_over-in-None.ensures.count c.in_ok-pass_over-in-None.ensures.hyps c.in_ok-pass_over-in-None.ensures.owed

pub exec_block-returns-in-None-clause-node : goal.exec_block-returns-in-None-clause-node
exec_block-returns-in-None-clause-node t c =
    node_stop c.args.block.now c.loop-index.index c.index-block-index.result c.loop-index.walk.maker.node c.exec.new.walk.maker.node c.pass_over.new.walk.maker.node _ c.loop-index-test.true c.index-block-index.is c.loop-index.invariant.node c.in_ok-end.ensures.node c.in_ok-pass_over-in-None.ensures.node

pub exec_block-returns-clause-value : goal.exec_block-returns-clause-value
exec_block-returns-clause-value t c =
    within_end c.args.frame.now (around c.args.round.now) c.args.walk.now c.loop-index.walk c.args.round.now.base c.args.breaks.now.items c.loop-index.breaks.items c.loop-index.here c.args.here c.args.block.now c.args.block.now c.loop-index.index c.loop-index-test.false c.loop-index.invariant

pub exec_block-returns-clause-node : goal.exec_block-returns-clause-node
exec_block-returns-clause-node t c =
    node_end c.args.block.now c.loop-index.index c.loop-index.walk.maker.node _ c.loop-index-test.false c.loop-index.invariant.node
