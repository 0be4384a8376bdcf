use Rattle.std.proofs.Common.{map, sym, ◌∙◌}
use Rattle.wy_core.specs.CoreSeen.{seen_param}
use Rattle.wy_flow_spec.specs.environment.Seen.{seen_environment}
use Rattle.wy_lemmas.proofs.Lists.{next_of as item_and_rest}
use Rattle.wy_types.specs.Names.{types_of}
use Rattle.wy_flow_spec.specs.typing.Outcomes.{gave}
use Rattle.wy_flow_spec.specs.typing.Programs as programs
use Rattle.wy_flow_exprs.proofs.checks_lemmas.StepLemmas.{first_refused}
use Rattle.wy_flow.proofs.WalkLemmas.{moved, shifted, onto}
use Rattle.wy_flow.proofs.program.with_params.Goals as goal

pub returns-in_err-next-clause-value : goal.returns-in_err-next-clause-value
returns-in_err-next-clause-value c =
    let N = types_of c.args.program.now.names in
    let H = seen_environment c.loop-param.here in
    let I = c.param-item.result in
    onto _ _ _ _ c.loop-param.invariant.steps
    (moved (λ l. programs.WithParams N (map seen_param l) H) _ _ _ _ (sym (item_and_rest c.args.params.now c.loop-param.param-index I c.loop-param-test.true c.param-item.is)) (first_refused _ _ _ _ _ c.in_err-next.ensures.value c.from_residual.ensures.1))

pub loop-param-preserved : goal.loop-param-preserved
loop-param-preserved c =
    let N = types_of c.args.program.now.names in
    let H = seen_environment c.loop-param.here in
    let I = c.param-item.result in
    record {
      over = c.in_ok-next.ensures.over;
      flow = c.in_ok-next.ensures.flow ∙ c.loop-param.invariant.flow;
      steps = λ o h. c.loop-param.invariant.steps o (shifted (λ l. programs.WithParams N (map seen_param l) H) _ _ _ (sym (item_and_rest c.args.params.now c.loop-param.param-index I c.loop-param-test.true c.param-item.is))
          (gave (seen_environment c.in_ok-next.next) _ c.in_ok-next.ensures.value h));
    }
