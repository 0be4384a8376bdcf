use Rattle.std.proofs.Common.{refl}
use Rattle.wy_flow_spec.specs.environment.Seen.{seen_slots}
use Rattle.wy_flow_exprs.specs.Seen.{seen_flow, seen_found}
use Rattle.wy_flow_spec.specs.typing.Outcomes.{gave}
use Rattle.wy_flow_exprs.proofs.checks_lemmas.StepLemmas.{first_refused}
use Rattle.wy_flow.proofs.WalkLemmas.{begun_is}
use Rattle.wy_flow.proofs.branches.begin_if.Goals as goal

pub returns-in_err-found-clause-value : goal.returns-in_err-found-clause-value
returns-in_err-found-clause-value c =
    first_refused _ _ _ _ _ c.in_err-found.ensures.value c.from_residual.ensures.1

pub returns-clause-value : goal.returns-clause-value
returns-clause-value c =
    gave (seen_found (seen_flow c.tested.new.walk) c.in_ok-found.found) _ c.in_ok-found.ensures.value
    (begun_is (seen_slots c.args.state.declared) (seen_flow c.tested.new.walk) _ _ _ _ _ _ c.in_ok-env.ensures.taken refl c.in_ok-env.ensures.other)
