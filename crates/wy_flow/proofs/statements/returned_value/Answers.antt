use Rattle.std.proofs.Common.{ap, ◌∙◌}
use Rattle.wy_core.specs.CoreSeen.{seen_ty}
use Rattle.wy_flow.specs.States.{seen_state}
use Rattle.wy_flow_exprs.specs.Seen.{seen_flow, seen_found, seen_result}
use Rattle.wy_types.specs.Names.{types_of}
use Rattle.wy_flow_spec.specs.typing.Outcomes.{Gives, gave}
use Rattle.wy_flow_spec.specs.typing.States as states
use Rattle.wy_flow_spec.specs.typing.Statements as spec
use Rattle.wy_flow_exprs.proofs.checks_lemmas.StepLemmas.{next, first_refused}
use Rattle.wy_flow.proofs.WalkLemmas.{shifted}
use Rattle.wy_flow.proofs.statements.returned_value.Goals as goal

pub returns-in_err-found-clause-value : goal.returns-in_err-found-clause-value
returns-in_err-found-clause-value c =
    first_refused _ _ _ _ _ c.in_err-found.ensures.value c.from_residual.ensures.1

pub returns-in_err-fits_result-clause-value : goal.returns-in_err-fits_result-clause-value
returns-in_err-fits_result-clause-value c =
    let N = types_of c.args.program.now.names in
    let D = seen_result c.args.output.now in
    next _ _ _ (seen_found (seen_flow c.typed.new.walk) c.in_ok-found.found) _ c.in_ok-found.ensures.value
    (first_refused _ _ _ _ _ (λ n. (shifted (λ t. spec.FitsResult N c.args.at (seen_ty t) D) _ _ _ c.get.ensures.value (c.in_err-fits_result.ensures.value n))) c.from_residual-in_err-fits_result.ensures.1)

pub returns-clause-value : goal.returns-clause-value
returns-clause-value c =
    let N = types_of c.args.program.now.names in
    let D = seen_result c.args.output.now in
    gave (seen_found (seen_flow c.typed.new.walk) c.in_ok-found.found) _ c.in_ok-found.ensures.value
    (gave tt _ (shifted (λ t. spec.FitsResult N c.args.at (seen_ty t) D) _ _ _ c.get.ensures.value c.in_ok-fits_result.ensures.value)
    (ap (λ s. Gives (states.with_flow (seen_flow c.fits_result.new.walk) s)) c.left.ensures.value ∙ ap (λ f. Gives (states.left (seen_state f c.args.state))) c.in_ok-fits_result.ensures.flow))
