use Rattle.std.proofs.Common.{ap, ◌∙◌}
use Rattle.wy_core.specs.CoreSeen.{seen_expr}
use Rattle.wy_flow_spec.specs.environment.Seen.{seen_environment, seen_slots}
use Rattle.wy_flow.specs.States.{seen_environments, seen_state}
use Rattle.wy_flow_exprs.specs.Seen.{seen_flow, seen_found, seen_program}
use Rattle.wy_types.specs.Names.{types_of}
use Rattle.wy_flow_spec.specs.typing.Loops as loops
use Rattle.wy_flow_spec.specs.typing.Outcomes.{gave}
use Rattle.wy_flow_spec.specs.typing.States as states
use Rattle.wy_flow_exprs.proofs.checks_lemmas.StepLemmas.{next, first_refused}
use Rattle.wy_flow.proofs.WalkLemmas.{shifted, begun_is}
use Rattle.wy_flow.proofs.loops.begin_loop.Goals as goal

pub returns-in_err-start-clause-value : goal.returns-in_err-start-clause-value
returns-in_err-start-clause-value c =
    let N = types_of c.args.program.now.names in
    let S = seen_state (seen_flow c.args.walk.now) c.args.state in
    first_refused _ _ _ _ _ (λ n. (shifted (λ xs. loops.Head N c.args.at S xs) _ _ _ (c.as_slice.ensures ∙ c.in_ok-variables.ensures.value) (c.in_err-start.ensures.value n))) c.from_residual-in_err-start.ensures.1

pub returns-in_err-found-clause-value : goal.returns-in_err-found-clause-value
returns-in_err-found-clause-value c =
    let N = types_of c.args.program.now.names in
    let P = seen_program c.args.program.now in
    let S = seen_state (seen_flow c.args.walk.now) c.args.state in
    let Z = seen_environment c.in_ok-start.start in
    let Y = seen_expr c.args.test.now in
    next _ _ _ Z _ (shifted (λ xs. loops.Head N c.args.at S xs) _ _ _ (c.as_slice.ensures ∙ c.in_ok-variables.ensures.value) c.in_ok-start.ensures.value)
    (first_refused _ _ _ _ _ (λ n. (shifted (λ f. states.Tested P c.args.at Z f Y) _ _ _ c.in_ok-start.ensures.flow (c.in_err-found.ensures.value n))) c.from_residual-in_err-found.ensures.1)

pub returns-in_err-clauses-clause-value : goal.returns-in_err-clauses-clause-value
returns-in_err-clauses-clause-value c =
    let N = types_of c.args.program.now.names in
    let P = seen_program c.args.program.now in
    let S = seen_state (seen_flow c.args.walk.now) c.args.state in
    let Z = seen_environment c.in_ok-start.start in
    let Y = seen_expr c.args.test.now in
    let W = seen_found (seen_flow c.tested.new.walk) c.in_ok-found.found in
    next _ _ _ Z _ (shifted (λ xs. loops.Head N c.args.at S xs) _ _ _ (c.as_slice.ensures ∙ c.in_ok-variables.ensures.value) c.in_ok-start.ensures.value)
    (next _ _ _ W _ (shifted (λ f. states.Tested P c.args.at Z f Y) _ _ _ c.in_ok-start.ensures.flow c.in_ok-found.ensures.value)
    (first_refused _ _ _ _ _ c.in_err-clauses.ensures.value c.from_residual-in_err-clauses.ensures.1))

pub returns-clause-value : goal.returns-clause-value
returns-clause-value c =
    let N = types_of c.args.program.now.names in
    let P = seen_program c.args.program.now in
    let S = seen_state (seen_flow c.args.walk.now) c.args.state in
    let Z = seen_environment c.in_ok-start.start in
    let Y = seen_expr c.args.test.now in
    let W = seen_found (seen_flow c.tested.new.walk) c.in_ok-found.found in
    gave Z _ (shifted (λ xs. loops.Head N c.args.at S xs) _ _ _ (c.as_slice.ensures ∙ c.in_ok-variables.ensures.value) c.in_ok-start.ensures.value)
    (gave W _ (shifted (λ f. states.Tested P c.args.at Z f Y) _ _ _ c.in_ok-start.ensures.flow c.in_ok-found.ensures.value)
    (gave (seen_flow c.clauses.new.walk) _ c.in_ok-clauses.ensures.value
    (begun_is (seen_slots c.args.state.declared) (seen_flow c.clauses.new.walk) _ _ _ _ _ _ c.in_ok-env.ensures.taken (ap seen_environments c.new.ensures) c.in_ok-env.ensures.other)))
