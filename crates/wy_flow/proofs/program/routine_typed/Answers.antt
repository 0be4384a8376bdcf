use Rattle.std.proofs.Common.{[], map, refl, ap, ◌∙◌}
use Rattle.wy_core.specs.CoreSeen.{seen_block, seen_exprs, seen_param, seen_routine}
use Rattle.wy_flow_spec.specs.environment.Seen.{seen_environment, seen_slots}
use Rattle.wy_flow_spec.specs.environment.Variables as variables
use Rattle.wy_flow.specs.States.{seen_environments, seen_state}
use Rattle.wy_flow_exprs.specs.Seen.{seen_flow, seen_program, seen_result}
use Rattle.wy_types.specs.Names.{types_of}
use Rattle.wy_flow_spec.specs.typing.Loops as loops
use Rattle.wy_flow_spec.specs.typing.Outcomes.{gave}
use Rattle.wy_flow_spec.specs.typing.Programs as programs
use Rattle.wy_flow_spec.specs.typing.Statements as spec
use Rattle.wy_flow_exprs.proofs.checks_lemmas.StepLemmas.{next, first_refused}
use Rattle.wy_flow.proofs.WalkLemmas as walks
use Rattle.wy_flow.proofs.WalkLemmas.{moved, shifted, onto, normal_meets, normal_given, head_meets, end_if_by, end_loop_by, begun, begun_is, types_pushed}
use Rattle.wy_flow.proofs.program.routine_typed.Goals as goal

pub returns-in_err-env-clause-value : goal.returns-in_err-env-clause-value
returns-in_err-env-clause-value c =
    let N = types_of c.args.program.now.names in
    first_refused _ _ _ _ _ (λ n. (shifted (λ l. programs.WithParams N (map seen_param l) variables.nothing_known) _ _ _ c.as_slice.ensures (c.in_err-env.ensures.value n))) c.from_residual.ensures.1

pub returns-in_err-clauses-clause-value : goal.returns-in_err-clauses-clause-value
returns-in_err-clauses-clause-value c =
    let N = types_of c.args.program.now.names in
    let P = seen_program c.args.program.now in
    let Q = seen_routine c.args.routine.now in
    let E = seen_environment c.in_ok-env.env in
    next _ _ _ E _ (shifted (λ l. programs.WithParams N (map seen_param l) variables.nothing_known) _ _ _ c.as_slice.ensures c.in_ok-env.ensures.value)
    (first_refused _ _ _ _ _ (λ n. (shifted (λ f. loops.ClausesTyped P E Q.preconditions f) _ _ _ c.in_ok-env.ensures.flow (shifted (λ l. loops.ClausesTyped P E (seen_exprs l) (seen_flow c.with_params.new.walk)) _ _ _ c.as_slice-2.ensures (c.in_err-clauses.ensures.value n)))) c.from_residual-in_err-clauses.ensures.1)

pub returns-in_err-behind-clause-value : goal.returns-in_err-behind-clause-value
returns-in_err-behind-clause-value c =
    let N = types_of c.args.program.now.names in
    let P = seen_program c.args.program.now in
    let Q = seen_routine c.args.routine.now in
    let E = seen_environment c.in_ok-env.env in
    let F1 = seen_flow c.clauses.new.walk in
    next _ _ _ E _ (shifted (λ l. programs.WithParams N (map seen_param l) variables.nothing_known) _ _ _ c.as_slice.ensures c.in_ok-env.ensures.value)
    (next _ _ _ F1 _ (shifted (λ f. loops.ClausesTyped P E Q.preconditions f) _ _ _ c.in_ok-env.ensures.flow (shifted (λ l. loops.ClausesTyped P E (seen_exprs l) (seen_flow c.with_params.new.walk)) _ _ _ c.as_slice-2.ensures c.in_ok-clauses.ensures.value))
    (first_refused _ _ _ _ _ (λ n. (shifted (λ e. programs.WithResult N (seen_environment e) Q.result) _ _ _ c.in_ok-copy.ensures.value (c.in_err-behind.ensures.value n))) c.from_residual-in_err-behind.ensures.1))

pub returns-in_err-clauses-2-clause-value : goal.returns-in_err-clauses-2-clause-value
returns-in_err-clauses-2-clause-value c =
    let N = types_of c.args.program.now.names in
    let P = seen_program c.args.program.now in
    let Q = seen_routine c.args.routine.now in
    let E = seen_environment c.in_ok-env.env in
    let F1 = seen_flow c.clauses.new.walk in
    let BH = seen_environment c.in_ok-behind.behind in
    next _ _ _ E _ (shifted (λ l. programs.WithParams N (map seen_param l) variables.nothing_known) _ _ _ c.as_slice.ensures c.in_ok-env.ensures.value)
    (next _ _ _ F1 _ (shifted (λ f. loops.ClausesTyped P E Q.preconditions f) _ _ _ c.in_ok-env.ensures.flow (shifted (λ l. loops.ClausesTyped P E (seen_exprs l) (seen_flow c.with_params.new.walk)) _ _ _ c.as_slice-2.ensures c.in_ok-clauses.ensures.value))
    (next _ _ _ BH _ (shifted (λ e. programs.WithResult N (seen_environment e) Q.result) _ _ _ c.in_ok-copy.ensures.value c.in_ok-behind.ensures.value)
    (first_refused _ _ _ _ _ (λ n. (shifted (λ f. loops.ClausesTyped P BH Q.postconditions f) _ _ _ c.in_ok-behind.ensures.flow (shifted (λ l. loops.ClausesTyped P BH (seen_exprs l) (seen_flow c.with_result.new.walk)) _ _ _ c.as_slice-3.ensures (c.in_err-clauses-2.ensures.value n)))) c.from_residual-in_err-clauses-2.ensures.1)))

pub returns-in_err-_end-clause-value : goal.returns-in_err-_end-clause-value
returns-in_err-_end-clause-value c =
    let N = types_of c.args.program.now.names in
    let P = seen_program c.args.program.now in
    let Q = seen_routine c.args.routine.now in
    let E = seen_environment c.in_ok-env.env in
    let F1 = seen_flow c.clauses.new.walk in
    let BH = seen_environment c.in_ok-behind.behind in
    let F2 = seen_flow c.clauses-2.new.walk in
    let O = seen_result c.in_ok-output.output in
    let EN = programs.entry Q E F2 in
    let K = seen_slots c.in_ok-declared.declared in
    let EB = seen_block c.as_slice-5.result.now in
    next _ _ _ E _ (shifted (λ l. programs.WithParams N (map seen_param l) variables.nothing_known) _ _ _ c.as_slice.ensures c.in_ok-env.ensures.value)
    (next _ _ _ F1 _ (shifted (λ f. loops.ClausesTyped P E Q.preconditions f) _ _ _ c.in_ok-env.ensures.flow (shifted (λ l. loops.ClausesTyped P E (seen_exprs l) (seen_flow c.with_params.new.walk)) _ _ _ c.as_slice-2.ensures c.in_ok-clauses.ensures.value))
    (next _ _ _ BH _ (shifted (λ e. programs.WithResult N (seen_environment e) Q.result) _ _ _ c.in_ok-copy.ensures.value c.in_ok-behind.ensures.value)
    (next _ _ _ F2 _ (shifted (λ f. loops.ClausesTyped P BH Q.postconditions f) _ _ _ c.in_ok-behind.ensures.flow (shifted (λ l. loops.ClausesTyped P BH (seen_exprs l) (seen_flow c.with_result.new.walk)) _ _ _ c.as_slice-3.ensures c.in_ok-clauses-2.ensures.value))
    (first_refused _ _ _ _ _ (λ n. (shifted (λ o. spec.TypedBlock P o Q.body EN) _ _ _ c.in_ok-output.ensures.value
    (shifted (λ l. spec.TypedBlock P O (seen_block l) EN) _ _ _ c.as_slice-5.ensures
    (shifted (λ d. spec.TypedBlock P O EB (walks.state E d [] F2)) _ _ _ (c.in_ok-declared.ensures.value ∙ ap (λ l. programs.declared_params [] (map seen_param l)) c.as_slice-4.ensures)
    (shifted (λ b. spec.TypedBlock P O EB (walks.state E K b F2)) _ _ _ (ap seen_environments c.new.ensures) (c.in_err-_end.ensures.value n)))))) c.from_residual-in_err-_end.ensures.1))))

pub returns-clause-value : goal.returns-clause-value
returns-clause-value c =
    let N = types_of c.args.program.now.names in
    let P = seen_program c.args.program.now in
    let Q = seen_routine c.args.routine.now in
    let E = seen_environment c.in_ok-env.env in
    let F1 = seen_flow c.clauses.new.walk in
    let BH = seen_environment c.in_ok-behind.behind in
    let F2 = seen_flow c.clauses-2.new.walk in
    let O = seen_result c.in_ok-output.output in
    let EN = programs.entry Q E F2 in
    let K = seen_slots c.in_ok-declared.declared in
    let EB = seen_block c.as_slice-5.result.now in
    gave E _ (shifted (λ l. programs.WithParams N (map seen_param l) variables.nothing_known) _ _ _ c.as_slice.ensures c.in_ok-env.ensures.value)
    (gave F1 _ (shifted (λ f. loops.ClausesTyped P E Q.preconditions f) _ _ _ c.in_ok-env.ensures.flow (shifted (λ l. loops.ClausesTyped P E (seen_exprs l) (seen_flow c.with_params.new.walk)) _ _ _ c.as_slice-2.ensures c.in_ok-clauses.ensures.value))
    (gave BH _ (shifted (λ e. programs.WithResult N (seen_environment e) Q.result) _ _ _ c.in_ok-copy.ensures.value c.in_ok-behind.ensures.value)
    (gave F2 _ (shifted (λ f. loops.ClausesTyped P BH Q.postconditions f) _ _ _ c.in_ok-behind.ensures.flow (shifted (λ l. loops.ClausesTyped P BH (seen_exprs l) (seen_flow c.with_result.new.walk)) _ _ _ c.as_slice-3.ensures c.in_ok-clauses-2.ensures.value))
    (gave (seen_state (seen_flow c.block_typed.new.walk) c.in_ok-_end._end) _ (shifted (λ o. spec.TypedBlock P o Q.body EN) _ _ _ c.in_ok-output.ensures.value
    (shifted (λ l. spec.TypedBlock P O (seen_block l) EN) _ _ _ c.as_slice-5.ensures
    (shifted (λ d. spec.TypedBlock P O EB (walks.state E d [] F2)) _ _ _ (c.in_ok-declared.ensures.value ∙ ap (λ l. programs.declared_params [] (map seen_param l)) c.as_slice-4.ensures)
    (shifted (λ b. spec.TypedBlock P O EB (walks.state E K b F2)) _ _ _ (ap seen_environments c.new.ensures) c.in_ok-_end.ensures.value)))) refl))))
