use Rattle.wy_flow_spec.specs.environment.Seen.{seen_environment}
use Rattle.wy_types.specs.Names.{types_of}
use Rattle.wy_flow_spec.specs.typing.States as states
use Rattle.wy_flow_exprs.proofs.checks_lemmas.StepLemmas.{next, first_refused}
use Rattle.wy_flow.proofs.WalkLemmas.{moved}
use Rattle.wy_flow.proofs.values.comes_into.Goals as goal

pub returns-in_err-fits-clause-value : goal.returns-in_err-fits-clause-value
returns-in_err-fits-clause-value c =
    first_refused _ _ _ _ _ c.in_err-fits.ensures.value c.from_residual.ensures.1

pub returns-clause-value : goal.returns-clause-value
returns-clause-value c =
    let N = types_of c.args.program.now.names in
    next _ _ _ tt _ c.in_ok-fits.ensures.value
    (moved (λ t. states.GiveNormal N c.args.at c.args.variable t (seen_environment c.args.env.now)) _ _ _ _ c.in_ok-both.ensures.value c.give_normal.ensures.value)
