use Rattle.std.proofs.Common.{ap}
use Rattle.wy_core.specs.CoreSeen.{seen_ty}
use Rattle.wy_flow_spec.specs.environment.Seen.{seen_environment, seen_slot}
use Rattle.wy_flow.specs.States.{seen_state}
use Rattle.wy_flow_exprs.specs.Seen.{seen_flow, seen_found}
use Rattle.wy_types.specs.Names.{types_of}
use Rattle.wy_flow_spec.specs.typing.Outcomes.{Gives, gave}
use Rattle.wy_flow_spec.specs.typing.States as states
use Rattle.wy_flow_spec.specs.typing.Statements as spec
use Rattle.wy_flow_exprs.proofs.checks_lemmas.StepLemmas.{next, first_refused}
use Rattle.wy_flow.proofs.WalkLemmas.{shifted}
use Rattle.wy_flow.proofs.values.assignment.Goals as goal

pub returns-in_err-found-clause-value : goal.returns-in_err-found-clause-value
returns-in_err-found-clause-value c =
    first_refused _ _ _ _ _ c.in_err-found.ensures.value c.from_residual.ensures.1

pub returns-in_err-into_declared-clause-value : goal.returns-in_err-into_declared-clause-value
returns-in_err-into_declared-clause-value c =
    let N = types_of c.args.program.now.names in
    let E = seen_environment c.args.state.env in
    next _ _ _ (seen_found (seen_flow c.typed.new.walk) c.in_ok-found.found) _ c.in_ok-found.ensures.value
    (first_refused _ _ _ _ _ (λ n. (shifted (λ d. spec.IntoDeclared N c.args.at c.args.variable (seen_ty c.in_ok-found.found.ty) E d) _ _ _ c.in_ok-declared.ensures.value (shifted (λ t. spec.IntoDeclared N c.args.at c.args.variable (seen_ty t) E (seen_slot c.in_ok-declared.declared)) _ _ _ c.get.ensures.value (c.in_err-into_declared.ensures.value n)))) c.from_residual-in_err-into_declared.ensures.1)

pub returns-clause-value : goal.returns-clause-value
returns-clause-value c =
    let N = types_of c.args.program.now.names in
    let E = seen_environment c.args.state.env in
    let B = seen_environment c.into_declared.new.env in
    gave (seen_found (seen_flow c.typed.new.walk) c.in_ok-found.found) _ c.in_ok-found.ensures.value
    (gave B _ (shifted (λ d. spec.IntoDeclared N c.args.at c.args.variable (seen_ty c.in_ok-found.found.ty) E d) _ _ _ c.in_ok-declared.ensures.value (shifted (λ t. spec.IntoDeclared N c.args.at c.args.variable (seen_ty t) E (seen_slot c.in_ok-declared.declared)) _ _ _ c.get.ensures.value c.in_ok-into_declared.ensures.value))
    (ap (λ f. Gives (states.with_env B (seen_state f c.args.state))) c.in_ok-into_declared.ensures.flow))
