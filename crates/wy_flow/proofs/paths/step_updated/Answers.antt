use Rattle.std.proofs.Common.{sym, ap, ◌∙◌, subst}
use Rattle.wy_core.specs.CoreSeen.{seen_step, seen_step_kind, seen_ty}
use Rattle.wy_types.specs.Names.{types_of}
use Rattle.wy_flow_spec.specs.typing.Asked as asked
use Rattle.wy_flow_spec.specs.typing.Outcomes.{Gives, Fails}
use Rattle.wy_flow_spec.specs.typing.Paths as paths
use Rattle.wy_flow_exprs.proofs.checks_lemmas.StepLemmas.{refused_on, no_memory}
use Rattle.wy_flow.proofs.WalkLemmas.{moved, shifted}
use Rattle.wy_flow.proofs.paths.step_updated.Goals as goal

pub returns-in_ok-with_item-in-Index-clause-value : goal.returns-in_ok-with_item-in-Index-clause-value
returns-in_ok-with_item-in-Index-clause-value c =
    let N = types_of c.args.program.now.names in
    let T = seen_ty c.args.ty.now in
    let B = seen_ty c.args.behind.now in
    let NW = seen_ty c.args.new in
    let A = c.args.step.now.at in
    shifted (λ k. paths.StepUpdated N c.args.at (seen_step_kind k A) T B NW) _ _ _ (sym c.in-Index.is) (ap (λ t. Gives t) c.in_ok-with_item-in-Index.ensures.value)

pub returns-in_err-made-in-Field-clause-value : goal.returns-in_err-made-in-Field-clause-value
returns-in_err-made-in-Field-clause-value c =
    let N = types_of c.args.program.now.names in
    let T = seen_ty c.args.ty.now in
    let B = seen_ty c.args.behind.now in
    let NW = seen_ty c.args.new in
    let A = c.args.step.now.at in
    moved (λ k. paths.StepUpdated N c.args.at (seen_step_kind k A) T B NW) _ _ _ _ (sym c.in-Field.is)
    (refused_on (asked.WithField N c.args.at c.in-Field.name T NW) _ _ _ (λ n. (shifted (λ t. asked.WithField N c.args.at c.in-Field.name (seen_ty t) NW) (Fails c.in_err-made-in-Field.field-0.0) _ _ c.get.ensures.value (c.in_err-made-in-Field.ensures.value n))) c.from_residual-in_err-made-in-Field.ensures.1)

pub returns-in_err-copy-in-Field-clause-value : goal.returns-in_err-copy-in-Field-clause-value
returns-in_err-copy-in-Field-clause-value c =
    let N = types_of c.args.program.now.names in
    let T = seen_ty c.args.ty.now in
    let B = seen_ty c.args.behind.now in
    let NW = seen_ty c.args.new in
    no_memory (paths.StepUpdated N c.args.at (seen_step c.args.step.now) T B NW) seen_ty _ c.from_residual-in_err-copy-in-Field.ensures.1

pub returns-in_ok-copy-in-Field-clause-value : goal.returns-in_ok-copy-in-Field-clause-value
returns-in_ok-copy-in-Field-clause-value c =
    let N = types_of c.args.program.now.names in
    let T = seen_ty c.args.ty.now in
    let B = seen_ty c.args.behind.now in
    let NW = seen_ty c.args.new in
    let A = c.args.step.now.at in
    shifted (λ k. paths.StepUpdated N c.args.at (seen_step_kind k A) T B NW) _ _ _ (sym c.in-Field.is)
    (subst (λ t. asked.WithField N c.args.at c.in-Field.name T NW (Gives (seen_ty t))) (sym (c.in_ok-copy-in-Field.ensures.value ∙ c.get-in-Field.ensures.value)) (shifted (λ t. asked.WithField N c.args.at c.in-Field.name (seen_ty t) NW) (Gives (seen_ty c.in_ok-made-in-Field.made)) _ _ c.get.ensures.value c.in_ok-made-in-Field.ensures.value))
