use Rattle.std.proofs.Common.{sym}
use Rattle.wy_flow_spec.specs.environment.Seen.{seen_environment}
use Rattle.wy_flow.specs.States.{seen_environments}
use Rattle.wy_lemmas.proofs.Lists.{next_of as item_and_rest}
use Rattle.wy_types.specs.Names.{types_of}
use Rattle.wy_flow_spec.specs.typing.Joins as joins
use Rattle.wy_flow_spec.specs.typing.Loops as loops
use Rattle.wy_flow_spec.specs.typing.Outcomes.{Gives, Fails, gave}
use Rattle.wy_flow_exprs.proofs.checks_lemmas.StepLemmas.{first_refused}
use Rattle.wy_flow.proofs.WalkLemmas.{moved, shifted, onto}
use Rattle.wy_flow.proofs.loops.exit.Goals as goal

pub returns-in_err-next-clause-value : goal.returns-in_err-next-clause-value
returns-in_err-next-clause-value c =
    let N = types_of c.args.program.now.names in
    let H = seen_environment c.loop-other.here in
    let I = c.other-item.result in
    onto _ _ _ _ c.loop-other.invariant.steps
    (moved (λ l. loops.Exit N c.args.at (seen_environments l) H) _ _ _ _ (sym (item_and_rest c.args.breaks.now c.loop-other.other-index I c.loop-other-test.true c.other-item.is))
    (first_refused _ _ _ _ _ (λ n. (shifted (λ e. joins.Joined N c.args.at H (seen_environment e)) (Fails c.in_err-next.field-0.0) _ _ c.in_ok-copy.ensures.value (c.in_err-next.ensures.value n))) c.from_residual-in_err-next.ensures.1))

pub loop-other-preserved : goal.loop-other-preserved
loop-other-preserved c =
    let N = types_of c.args.program.now.names in
    let H = seen_environment c.loop-other.here in
    let I = c.other-item.result in
    record {
      over = c.in_ok-next.ensures.over;
      flow = c.loop-other.invariant.flow;
      steps = λ o h. c.loop-other.invariant.steps o (shifted (λ l. loops.Exit N c.args.at (seen_environments l) H) _ _ _ (sym (item_and_rest c.args.breaks.now c.loop-other.other-index I c.loop-other-test.true c.other-item.is))
          (gave (seen_environment c.in_ok-next.next) _ (shifted (λ e. joins.Joined N c.args.at H (seen_environment e)) (Gives (seen_environment c.in_ok-next.next)) _ _ c.in_ok-copy.ensures.value c.in_ok-next.ensures.value) h));
    }
