use Rattle.std.proofs.Common.{refl, sym}
use Rattle.wy_core.specs.CoreSeen.{seen_expr, seen_exprs}
use Rattle.wy_flow_spec.specs.environment.Seen.{seen_environment}
use Rattle.wy_flow_exprs.specs.Seen.{seen_flow, seen_found, seen_program}
use Rattle.wy_lemmas.proofs.Lists.{next_of as item_and_rest}
use Rattle.wy_flow_spec.specs.typing.Loops as loops
use Rattle.wy_flow_spec.specs.typing.Outcomes.{gave, stopped}
use Rattle.wy_flow_spec.specs.typing.States as states
use Rattle.wy_flow_exprs.proofs.checks_lemmas.StepLemmas.{first_refused}
use Rattle.wy_flow.proofs.SeenLemmas.{place_is}
use Rattle.wy_flow.proofs.WalkLemmas.{moved, shifted, onto}
use Rattle.wy_flow.proofs.branches.clauses.Goals as goal

pub returns-in_err-_found-clause-value : goal.returns-in_err-_found-clause-value
returns-in_err-_found-clause-value c =
    let P = seen_program c.args.program.now in
    let E = seen_environment c.args.env.now in
    let F = seen_flow c.loop-clause.walk in
    let I = c.clause-item.result in
    onto _ _ _ _ c.loop-clause.invariant.steps
    (moved (λ l. loops.ClausesTyped P E (seen_exprs l) F) _ _ _ _ (sym (item_and_rest c.args.list.now c.loop-clause.clause-index I c.loop-clause-test.true c.clause-item.is))
    (first_refused _ _ _ _ _ (λ n. stopped _ (shifted (λ a. states.Tested P a E F (seen_expr I)) _ _ _ (sym (place_is I)) (c.in_err-_found.ensures.value n))) c.from_residual.ensures.1))

pub loop-clause-preserved : goal.loop-clause-preserved
loop-clause-preserved c =
    let P = seen_program c.args.program.now in
    let E = seen_environment c.args.env.now in
    let F = seen_flow c.loop-clause.walk in
    let I = c.clause-item.result in
    record {
      over = c.in_ok-_found.ensures.over;
      steps = λ o h. c.loop-clause.invariant.steps o (shifted (λ l. loops.ClausesTyped P E (seen_exprs l) F) _ _ _ (sym (item_and_rest c.args.list.now c.loop-clause.clause-index I c.loop-clause-test.true c.clause-item.is))
          (gave (seen_flow c.tested.new.walk) _ (gave (seen_found (seen_flow c.tested.new.walk) c.in_ok-_found._found) _ (shifted (λ a. states.Tested P a E F (seen_expr I)) _ _ _ (sym (place_is I)) c.in_ok-_found.ensures.value) refl) h));
    }
