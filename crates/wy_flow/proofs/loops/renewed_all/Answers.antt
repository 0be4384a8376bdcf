use Rattle.std.proofs.Common.{get_or, sym, ◌∙◌}
use Rattle.wy_flow_spec.specs.environment.Seen.{seen_environment, seen_slots}
use Rattle.wy_types.specs.Names.{types_of}
use Rattle.wy_flow_spec.specs.typing.Loops as loops
use Rattle.wy_flow_spec.specs.typing.Outcomes.{Gives, Fails, gave}
use Rattle.wy_flow_exprs.proofs.checks_lemmas.StepLemmas.{first_refused}
use Rattle.wy_flow.proofs.WalkLemmas.{moved, shifted, onto}
use Rattle.std.proofs.lemmas.List.{drop_more}
use Rattle.wy_flow.proofs.loops.renewed_all.Goals as goal

pub returns-in_err-next-clause-value : goal.returns-in_err-next-clause-value
returns-in_err-next-clause-value c =
    let N = types_of c.args.program.now.names in
    let D = seen_slots c.args.state.now.declared in
    let H = seen_environment c.loop-variable.here in
    onto _ _ _ _ c.loop-variable.invariant.steps
    (moved (λ l. loops.RenewedAll N c.args.at D l H) _ _ _ _ (sym (drop_more c.args.variables.now c.loop-variable.variable-index 0 c.loop-variable-test.true))
    (first_refused _ _ _ _ _ (λ n. (shifted (λ d. loops.Renewed N c.args.at H (get_or c.args.variables.now c.loop-variable.variable-index 0) d) (Fails c.in_err-next.field-0.0) _ _ c.in_ok-declared.ensures.value (c.in_err-next.ensures.value n))) c.from_residual-in_err-next.ensures.1))

pub loop-variable-preserved : goal.loop-variable-preserved
loop-variable-preserved c =
    let N = types_of c.args.program.now.names in
    let D = seen_slots c.args.state.now.declared in
    let H = seen_environment c.loop-variable.here in
    record {
      over = c.in_ok-next.ensures.over;
      flow = c.in_ok-next.ensures.flow ∙ c.loop-variable.invariant.flow;
      steps = λ o h. c.loop-variable.invariant.steps o (shifted (λ l. loops.RenewedAll N c.args.at D l H) _ _ _ (sym (drop_more c.args.variables.now c.loop-variable.variable-index 0 c.loop-variable-test.true))
          (gave (seen_environment c.in_ok-next.next) _ (shifted (λ d. loops.Renewed N c.args.at H (get_or c.args.variables.now c.loop-variable.variable-index 0) d) (Gives (seen_environment c.in_ok-next.next)) _ _ c.in_ok-declared.ensures.value c.in_ok-next.ensures.value) h));
    }
