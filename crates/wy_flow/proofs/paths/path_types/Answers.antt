use Rattle.std.proofs.Common.{[], ◌∷◌, ◌+◌, ◌++◌, length, map, drop, sym, ap, ◌∙◌, arith}
use Rattle.wy_core.specs.CoreSeen.{seen_step, seen_ty}
use Rattle.wy_flow_spec.specs.environment.Seen.{seen_environment}
use Rattle.wy_flow.specs.Paths.{seen_reached}
use Rattle.wy_flow_exprs.specs.Seen.{seen_all, seen_flow, seen_program, seen_types}
use Rattle.wy_lemmas.proofs.Lists.{next_of as item_and_rest}
use Rattle.wy_flow_spec.specs.typing.Outcomes.{gave}
use Rattle.wy_flow_spec.specs.typing.Paths as paths
use Rattle.wy_flow_exprs.proofs.checks_lemmas.StepLemmas.{first_refused}
use Rattle.wy_flow.proofs.WalkLemmas as walks
use Rattle.wy_flow.proofs.WalkLemmas.{moved, shifted, onto, normal_meets, normal_given, head_meets, end_if_by, end_loop_by, begun, begun_is, types_pushed}
use Rattle.std.proofs.lemmas.List.{length_push}
use Rattle.wy_flow.proofs.paths.path_types.Goals as goal

pub returns-in_err-next-clause-value : goal.returns-in_err-next-clause-value
returns-in_err-next-clause-value c =
    let P = seen_program c.args.program.now in
    let E = seen_environment c.args.env.now in
    let F = seen_flow c.loop-step.walk in
    let T = seen_ty c.loop-step.here in
    let A = seen_all F c.loop-step.made in
    let I = c.step-item.result in
    onto _ _ _ _ c.loop-step.invariant.steps
    (moved (λ l. paths.PathTypes P E (map seen_step l) T A) _ _ _ _ (sym (item_and_rest c.args.path.now c.loop-step.step-index I c.loop-step-test.true c.step-item.is)) (first_refused _ _ _ _ _ c.in_err-next.ensures.value c.from_residual-in_err-next.ensures.1))

pub loop-step-preserved : goal.loop-step-preserved
loop-step-preserved c =
    let P = seen_program c.args.program.now in
    let E = seen_environment c.args.env.now in
    let F = seen_flow c.loop-step.walk in
    let T = seen_ty c.loop-step.here in
    let A = seen_all F c.loop-step.made in
    let I = c.step-item.result in
    let G = seen_flow c.step_type.new.walk in
    record {
      count = ap length c.in_ok-push-2.ensures.ok ∙ length_push c.loop-step.made c.in_ok-shared.shared ∙ ap (λ n. n + 1) c.loop-step.invariant.count;
      over = c.in_ok-next.ensures.over;
      steps = λ o h. c.loop-step.invariant.steps o (shifted (λ l. paths.PathTypes P E (map seen_step l) T A) _ _ _ (sym (item_and_rest c.args.path.now c.loop-step.step-index I c.loop-step-test.true c.step-item.is))
          (gave (seen_reached G c.in_ok-next.next) _ c.in_ok-next.ensures.value
          (shifted (λ ts. paths.PathTypes P E (map seen_step (drop (c.loop-step.step-index + 1) c.args.path.now)) (seen_ty c.in_ok-next.next) (walks.all ts G)) _ _ _
          (types_pushed c.loop-step.made c.push-in-loop-step.new.self c.in_ok-shared.shared c.in_ok-next.next c.in_ok-push-2.ensures.ok c.in_ok-shared.ensures.value) h)));
    }

pub loop-step-init : goal.loop-step-init
loop-step-init c =
    let P = seen_program c.args.program.now in
    let IS = c.in_ok-push.ensures.ok ∙ ap (λ l. l ++ c.in_ok-first.first ∷ []) c.new-made.ensures in
    record {
      count = ap length (IS);
      over = c.requires.over;
      steps = λ o h. shifted (λ ts. paths.PathTypes P (seen_environment c.args.env.now) (map seen_step c.args.path.now) (seen_ty c.args.ty) (walks.all ts (seen_flow c.args.walk.now))) _ _ _
          (ap seen_types (IS) ∙ ap (λ t. seen_ty t ∷ []) c.in_ok-first.ensures.value) h;
    }

pub returns-clause-along : goal.returns-clause-along
returns-clause-along c =
    omega (arith, c.loop-step.invariant.count, c.loop-step-test.false, c.loop-step.auto.step-index-end)
