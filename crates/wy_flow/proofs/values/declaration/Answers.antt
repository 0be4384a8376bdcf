use Rattle.std.proofs.Common.{sym, ap, ◌∙◌}
use Rattle.wy_core.specs.CoreSeen.{seen_option, seen_ty}
use Rattle.wy_flow_spec.specs.environment.Seen.{seen_environment}
use Rattle.wy_flow.specs.States.{seen_state}
use Rattle.wy_flow_exprs.specs.Seen.{seen_flow, seen_found, seen_program}
use Rattle.wy_types.specs.Names.{types_of}
use Rattle.wy_flow_spec.specs.typing.Outcomes.{Gives, gave}
use Rattle.wy_flow_spec.specs.typing.States as states
use Rattle.wy_flow_spec.specs.typing.Statements as spec
use Rattle.wy_flow_exprs.proofs.checks_lemmas.StepLemmas.{next, first_refused}
use Rattle.wy_flow.proofs.WalkLemmas.{moved, shifted}
use Rattle.wy_flow.proofs.values.declaration.Goals as goal

pub returns-in_err-give_normal-in-None-clause-value : goal.returns-in_err-give_normal-in-None-clause-value
returns-in_err-give_normal-in-None-clause-value c =
    let P = seen_program c.args.program.now in
    let S = seen_state (seen_flow c.args.walk.now) c.args.state in
    let T = seen_ty c.args.ty.now in
    moved (λ v. spec.DeclareTyped P c.args.at T c.args.variable S (seen_option v)) _ _ _ _ (sym c.in-None.is) (first_refused _ _ _ _ _ c.in_err-give_normal-in-None.ensures.value c.from_residual.ensures.1)

pub returns-in_ok-declare-in-None-clause-value : goal.returns-in_ok-declare-in-None-clause-value
returns-in_ok-declare-in-None-clause-value c =
    let P = seen_program c.args.program.now in
    let S = seen_state (seen_flow c.args.walk.now) c.args.state in
    let T = seen_ty c.args.ty.now in
    let B = seen_environment c.give_normal.new.env in
    shifted (λ v. spec.DeclareTyped P c.args.at T c.args.variable S (seen_option v)) _ _ _ (sym c.in-None.is)
    (gave B _ c.in_ok-give_normal-in-None.ensures.value
    (ap (λ s. Gives (states.with_flow (seen_flow c.give_normal.new.walk) s)) c.in_ok-declare-in-None.ensures.value
    ∙ ap (λ f. Gives (states.declare c.args.variable T (states.with_env B (seen_state f c.args.state)))) c.in_ok-give_normal-in-None.ensures.flow))

pub returns-in_err-found-in-Some-clause-value : goal.returns-in_err-found-in-Some-clause-value
returns-in_err-found-in-Some-clause-value c =
    let P = seen_program c.args.program.now in
    let S = seen_state (seen_flow c.args.walk.now) c.args.state in
    let T = seen_ty c.args.ty.now in
    moved (λ v. spec.DeclareTyped P c.args.at T c.args.variable S (seen_option v)) _ _ _ _ (sym c.in-Some.is) (first_refused _ _ _ _ _ c.in_err-found-in-Some.ensures.value c.from_residual-in_err-found-in-Some.ensures.1)

pub returns-in_err-comes_into-in-Some-clause-value : goal.returns-in_err-comes_into-in-Some-clause-value
returns-in_err-comes_into-in-Some-clause-value c =
    let N = types_of c.args.program.now.names in
    let P = seen_program c.args.program.now in
    let S = seen_state (seen_flow c.args.walk.now) c.args.state in
    let T = seen_ty c.args.ty.now in
    let E = seen_environment c.args.state.env in
    moved (λ v. spec.DeclareTyped P c.args.at T c.args.variable S (seen_option v)) _ _ _ _ (sym c.in-Some.is)
    (next _ _ _ (seen_found (seen_flow c.typed.new.walk) c.in_ok-found-in-Some.found) _ c.in_ok-found-in-Some.ensures.value
    (first_refused _ _ _ _ _ (λ n. shifted (λ t. states.ComesInto N c.args.at c.args.variable (seen_ty t) T E) _ _ _ c.get.ensures.value (c.in_err-comes_into-in-Some.ensures.value n)) c.from_residual-in_err-comes_into-in-Some.ensures.1))

pub returns-in_ok-declare-in-Some-clause-value : goal.returns-in_ok-declare-in-Some-clause-value
returns-in_ok-declare-in-Some-clause-value c =
    let N = types_of c.args.program.now.names in
    let P = seen_program c.args.program.now in
    let S = seen_state (seen_flow c.args.walk.now) c.args.state in
    let T = seen_ty c.args.ty.now in
    let E = seen_environment c.args.state.env in
    let B = seen_environment c.comes_into.new.env in
    shifted (λ v. spec.DeclareTyped P c.args.at T c.args.variable S (seen_option v)) _ _ _ (sym c.in-Some.is)
    (gave (seen_found (seen_flow c.typed.new.walk) c.in_ok-found-in-Some.found) _ c.in_ok-found-in-Some.ensures.value
    (gave B _ (shifted (λ t. states.ComesInto N c.args.at c.args.variable (seen_ty t) T E) _ _ _ c.get.ensures.value c.in_ok-comes_into-in-Some.ensures.value)
    (ap (λ s. Gives (states.with_flow (seen_flow c.comes_into.new.walk) s)) c.in_ok-declare-in-Some.ensures.value
    ∙ ap (λ f. Gives (states.declare c.args.variable T (states.with_env B (seen_state f c.args.state)))) c.in_ok-comes_into-in-Some.ensures.flow)))
