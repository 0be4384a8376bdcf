use Rattle.std.proofs.Common.{refl}
use Rattle.wy_flow_spec.specs.environment.Seen.{seen_environment}
use Rattle.wy_flow_spec.specs.typing.Outcomes.{gave}
use Rattle.wy_flow_exprs.proofs.checks_lemmas.StepLemmas.{first_refused}
use Rattle.wy_flow.proofs.branches.end_if.Goals as goal

pub returns-in_err-env-clause-value : goal.returns-in_err-env-clause-value
returns-in_err-env-clause-value c =
    first_refused _ _ _ _ _ c.in_err-env.ensures.value c.from_residual.ensures.1

pub returns-clause-value : goal.returns-clause-value
returns-clause-value c =
    gave (seen_environment c.in_ok-env.env) _ c.in_ok-env.ensures.value refl
