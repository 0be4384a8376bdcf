use Rattle.std.proofs.Common.{map, ap, ◌∙◌}
use Rattle.wy_core.specs.CoreSeen.{seen_step, seen_ty}
use Rattle.wy_flow_spec.specs.environment.Seen.{seen_environment}
use Rattle.wy_flow.specs.States.{seen_state}
use Rattle.wy_flow_exprs.specs.Seen.{seen_all, seen_flow, seen_found, seen_program, seen_types}
use Rattle.wy_types.specs.Names.{types_of}
use Rattle.wy_flow_spec.specs.typing.Outcomes.{Gives, gave}
use Rattle.wy_flow_spec.specs.typing.Paths as paths
use Rattle.wy_flow_spec.specs.typing.States as states
use Rattle.wy_flow_spec.specs.typing.Statements as spec
use Rattle.wy_flow_exprs.proofs.checks_lemmas.StepLemmas.{next, first_refused}
use Rattle.wy_flow.proofs.WalkLemmas.{shifted}
use Rattle.wy_flow.proofs.values.update.Goals as goal

pub returns-in_err-types-clause-value : goal.returns-in_err-types-clause-value
returns-in_err-types-clause-value c =
    let P = seen_program c.args.program.now in
    let E = seen_environment c.args.state.env in
    let R = map seen_step c.args.path.now in
    let F = seen_flow c.args.walk.now in
    first_refused _ _ _ _ _ (λ n. (shifted (λ t. paths.TypesAlong P E R F t) _ _ _ c.in_ok-ty.ensures.value (c.in_err-types.ensures.value n))) c.from_residual-in_err-types.ensures.1

pub returns-in_err-found-clause-value : goal.returns-in_err-found-clause-value
returns-in_err-found-clause-value c =
    let P = seen_program c.args.program.now in
    let E = seen_environment c.args.state.env in
    let R = map seen_step c.args.path.now in
    let F = seen_flow c.args.walk.now in
    let A = seen_all (seen_flow c.path_types.new.walk) c.in_ok-types.types in
    next _ _ _ A _ (shifted (λ t. paths.TypesAlong P E R F t) _ _ _ c.in_ok-ty.ensures.value c.in_ok-types.ensures.value)
    (first_refused _ _ _ _ _ c.in_err-found.ensures.value c.from_residual-in_err-found.ensures.1)

pub returns-in_err-new-clause-value : goal.returns-in_err-new-clause-value
returns-in_err-new-clause-value c =
    let N = types_of c.args.program.now.names in
    let P = seen_program c.args.program.now in
    let E = seen_environment c.args.state.env in
    let R = map seen_step c.args.path.now in
    let F = seen_flow c.args.walk.now in
    let A = seen_all (seen_flow c.path_types.new.walk) c.in_ok-types.types in
    let W = seen_found (seen_flow c.typed.new.walk) c.in_ok-found.found in
    next _ _ _ A _ (shifted (λ t. paths.TypesAlong P E R F t) _ _ _ c.in_ok-ty.ensures.value c.in_ok-types.ensures.value)
    (next _ _ _ W _ c.in_ok-found.ensures.value
    (first_refused _ _ _ _ _ (λ n. (shifted (λ t. paths.Updated N c.args.at R (seen_types t) (seen_ty c.in_ok-found.found.ty)) _ _ _ c.as_slice.ensures (shifted (λ t. paths.Updated N c.args.at R (seen_types c.as_slice.result.now) (seen_ty t)) _ _ _ c.get.ensures.value (c.in_err-new.ensures.value n)))) c.from_residual-in_err-new.ensures.1))

pub returns-in_err-new_declared-clause-value : goal.returns-in_err-new_declared-clause-value
returns-in_err-new_declared-clause-value c =
    let N = types_of c.args.program.now.names in
    let P = seen_program c.args.program.now in
    let E = seen_environment c.args.state.env in
    let R = map seen_step c.args.path.now in
    let F = seen_flow c.args.walk.now in
    let A = seen_all (seen_flow c.path_types.new.walk) c.in_ok-types.types in
    let W = seen_found (seen_flow c.typed.new.walk) c.in_ok-found.found in
    next _ _ _ A _ (shifted (λ t. paths.TypesAlong P E R F t) _ _ _ c.in_ok-ty.ensures.value c.in_ok-types.ensures.value)
    (next _ _ _ W _ c.in_ok-found.ensures.value
    (next _ _ _ (seen_ty c.in_ok-new.new) _ (shifted (λ t. paths.Updated N c.args.at R (seen_types t) (seen_ty c.in_ok-found.found.ty)) _ _ _ c.as_slice.ensures (shifted (λ t. paths.Updated N c.args.at R (seen_types c.as_slice.result.now) (seen_ty t)) _ _ _ c.get.ensures.value c.in_ok-new.ensures.value))
    (first_refused _ _ _ _ _ (λ n. (shifted (λ d. spec.NewDeclared N c.args.at c.args.variable (seen_ty c.in_ok-new.new) E d) _ _ _ c.in_ok-declared.ensures.value (c.in_err-new_declared.ensures.value n))) c.from_residual-in_err-new_declared.ensures.1)))

pub returns-clause-value : goal.returns-clause-value
returns-clause-value c =
    let N = types_of c.args.program.now.names in
    let P = seen_program c.args.program.now in
    let E = seen_environment c.args.state.env in
    let R = map seen_step c.args.path.now in
    let F = seen_flow c.args.walk.now in
    let A = seen_all (seen_flow c.path_types.new.walk) c.in_ok-types.types in
    let W = seen_found (seen_flow c.typed.new.walk) c.in_ok-found.found in
    let B = seen_environment c.new_declared.new.env in
    gave A _ (shifted (λ t. paths.TypesAlong P E R F t) _ _ _ c.in_ok-ty.ensures.value c.in_ok-types.ensures.value)
    (gave W _ c.in_ok-found.ensures.value
    (gave (seen_ty c.in_ok-new.new) _ (shifted (λ t. paths.Updated N c.args.at R (seen_types t) (seen_ty c.in_ok-found.found.ty)) _ _ _ c.as_slice.ensures (shifted (λ t. paths.Updated N c.args.at R (seen_types c.as_slice.result.now) (seen_ty t)) _ _ _ c.get.ensures.value c.in_ok-new.ensures.value))
    (gave B _ (shifted (λ d. spec.NewDeclared N c.args.at c.args.variable (seen_ty c.in_ok-new.new) E d) _ _ _ c.in_ok-declared.ensures.value c.in_ok-new_declared.ensures.value)
    (ap (λ f. Gives (states.with_env B (seen_state f c.args.state))) (c.in_ok-new_declared.ensures.flow ∙ c.in_ok-new.ensures.flow)))))
