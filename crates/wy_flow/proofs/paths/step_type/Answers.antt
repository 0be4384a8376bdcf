use Rattle.std.proofs.Common.{refl, sym, ap}
use Rattle.wy_core.specs.CoreSeen.{seen_step_kind, seen_ty}
use Rattle.wy_flow_spec.specs.environment.Seen.{seen_environment}
use Rattle.wy_flow.specs.Paths.{seen_reached}
use Rattle.wy_flow_exprs.specs.Seen.{seen_flow, seen_found, seen_program}
use Rattle.wy_types.specs.Names.{types_of}
use Rattle.wy_flow_spec.specs.typing.Asked as asked
use Rattle.wy_flow_spec.specs.typing.Outcomes.{Gives, Fails, gave}
use Rattle.wy_flow_spec.specs.typing.Paths as paths
use Rattle.wy_flow_exprs.proofs.checks_lemmas.StepLemmas.{next, first_refused}
use Rattle.wy_flow.proofs.WalkLemmas.{moved, shifted}
use Rattle.wy_flow.proofs.paths.step_type.Goals as goal

pub returns-in_err-found-in-Index-clause-value : goal.returns-in_err-found-in-Index-clause-value
returns-in_err-found-in-Index-clause-value c =
    let P = seen_program c.args.program.now in
    let E = seen_environment c.args.env.now in
    let F = seen_flow c.args.walk.now in
    let T = seen_ty c.args.ty.now in
    let A = c.args.step.now.at in
    moved (λ k. paths.StepType P E F T (seen_step_kind k A)) _ _ _ _ (sym c.in-Index.is) (first_refused _ _ _ _ _ c.in_err-found-in-Index.ensures.value c.from_residual.ensures.1)

pub returns-in_err-item-in-Index-clause-value : goal.returns-in_err-item-in-Index-clause-value
returns-in_err-item-in-Index-clause-value c =
    let P = seen_program c.args.program.now in
    let E = seen_environment c.args.env.now in
    let F = seen_flow c.args.walk.now in
    let T = seen_ty c.args.ty.now in
    let A = c.args.step.now.at in
    moved (λ k. paths.StepType P E F T (seen_step_kind k A)) _ _ _ _ (sym c.in-Index.is)
    (next _ _ _ (seen_found (seen_flow c.typed.new.walk) c.in_ok-found-in-Index.found) _ c.in_ok-found-in-Index.ensures.value (first_refused _ _ _ _ _ c.in_err-item-in-Index.ensures.value c.from_residual-in_err-item-in-Index.ensures.1))

pub returns-in_ok-item-in-Index-clause-value : goal.returns-in_ok-item-in-Index-clause-value
returns-in_ok-item-in-Index-clause-value c =
    let P = seen_program c.args.program.now in
    let E = seen_environment c.args.env.now in
    let F = seen_flow c.args.walk.now in
    let T = seen_ty c.args.ty.now in
    let A = c.args.step.now.at in
    shifted (λ k. paths.StepType P E F T (seen_step_kind k A)) _ _ _ (sym c.in-Index.is)
    (gave (seen_found (seen_flow c.typed.new.walk) c.in_ok-found-in-Index.found) _ c.in_ok-found-in-Index.ensures.value
    (gave (seen_ty c.in_ok-item-in-Index.item) _ c.in_ok-item-in-Index.ensures.value (ap (λ f. Gives (seen_reached f c.in_ok-item-in-Index.item)) c.in_ok-item-in-Index.ensures.flow)))

pub returns-in_err-made-in-Field-clause-value : goal.returns-in_err-made-in-Field-clause-value
returns-in_err-made-in-Field-clause-value c =
    let N = types_of c.args.program.now.names in
    let P = seen_program c.args.program.now in
    let E = seen_environment c.args.env.now in
    let F = seen_flow c.args.walk.now in
    let T = seen_ty c.args.ty.now in
    let A = c.args.step.now.at in
    moved (λ k. paths.StepType P E F T (seen_step_kind k A)) _ _ _ _ (sym c.in-Field.is) (first_refused _ _ _ _ _ (λ n. (shifted (λ t. asked.Field N A c.in-Field.name (seen_ty t)) (Fails c.in_err-made-in-Field.field-0.0) _ _ c.get.ensures.value (c.in_err-made-in-Field.ensures.value n))) c.from_residual-in_err-made-in-Field.ensures.1)

pub returns-in_ok-made-in-Field-clause-value : goal.returns-in_ok-made-in-Field-clause-value
returns-in_ok-made-in-Field-clause-value c =
    let N = types_of c.args.program.now.names in
    let P = seen_program c.args.program.now in
    let E = seen_environment c.args.env.now in
    let F = seen_flow c.args.walk.now in
    let T = seen_ty c.args.ty.now in
    let A = c.args.step.now.at in
    shifted (λ k. paths.StepType P E F T (seen_step_kind k A)) _ _ _ (sym c.in-Field.is) (gave (seen_ty c.in_ok-made-in-Field.made) _ (shifted (λ t. asked.Field N A c.in-Field.name (seen_ty t)) (Gives (seen_ty c.in_ok-made-in-Field.made)) _ _ c.get.ensures.value c.in_ok-made-in-Field.ensures.value) refl)
