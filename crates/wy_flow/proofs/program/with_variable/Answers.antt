use Rattle.std.proofs.Common.{ap}
use Rattle.wy_core.specs.CoreSeen.{seen_ty}
use Rattle.wy_flow_spec.specs.typing.Outcomes.{Gives, gave}
use Rattle.wy_flow_exprs.proofs.checks_lemmas.StepLemmas.{first_refused}
use Rattle.wy_flow.proofs.program.with_variable.Goals as goal

pub returns-in_err-made-clause-value : goal.returns-in_err-made-clause-value
returns-in_err-made-clause-value c =
    first_refused _ _ _ _ _ c.in_err-made.ensures.value c.from_residual.ensures.1

pub returns-clause-value : goal.returns-clause-value
returns-clause-value c =
    gave (seen_ty c.in_ok-made.made) _ c.in_ok-made.ensures.value (ap (λ e. Gives e) c.in_ok-give.ensures.value)
