use Rattle.std.proofs.Common.{ap, ◌∙◌}
use Rattle.wy_flow_spec.specs.environment.Seen.{seen_changes, seen_environment}
use Rattle.wy_flow_spec.specs.environment.Variables as variables
use Rattle.wy_flow.specs.States.{seen_state}
use Rattle.wy_flow_exprs.specs.Seen.{seen_flow, seen_found}
use Rattle.wy_flow_spec.specs.typing.Outcomes.{Gives, gave}
use Rattle.wy_flow_spec.specs.typing.States as states
use Rattle.wy_flow_exprs.proofs.checks_lemmas.StepLemmas.{first_refused}
use Rattle.wy_flow.proofs.branches.asserted.Goals as goal

pub returns-in_err-found-clause-value : goal.returns-in_err-found-clause-value
returns-in_err-found-clause-value c =
    first_refused _ _ _ _ _ c.in_err-found.ensures.value c.from_residual.ensures.1

pub returns-clause-value : goal.returns-clause-value
returns-clause-value c =
    gave (seen_found (seen_flow c.tested.new.walk) c.in_ok-found.found) _ c.in_ok-found.ensures.value
    (ap (λ e. Gives (states.with_env e (seen_state (seen_flow c.tested.new.walk) c.args.state)))
    (c.in_ok-change.ensures.value ∙ ap (λ l. variables.changed (seen_environment c.args.state.env) (seen_changes l)) c.as_slice.ensures))
