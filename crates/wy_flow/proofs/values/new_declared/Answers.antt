use Rattle.std.proofs.Common.{Some, sym}
use Rattle.wy_core.specs.CoreSeen.{seen_ty}
use Rattle.wy_flow_spec.specs.environment.Seen.{seen_environment, seen_slot}
use Rattle.wy_types.specs.Names.{types_of}
use Rattle.wy_flow_spec.specs.typing.Statements as spec
use Rattle.wy_flow_exprs.proofs.checks_lemmas.StepLemmas.{next, first_refused}
use Rattle.wy_flow.proofs.WalkLemmas.{moved}
use Rattle.wy_flow.proofs.values.new_declared.Goals as goal

pub returns-in_err-fits-in-Some-clause-value : goal.returns-in_err-fits-in-Some-clause-value
returns-in_err-fits-in-Some-clause-value c =
    let N = types_of c.args.program.now.names in
    let E = seen_environment c.args.env.now in
    moved (λ d. spec.NewDeclared N c.args.at c.args.variable (seen_ty c.args.ty.now) E (seen_slot d)) _ _ _ _ (sym c.in-Some.is)
    (moved (λ d. spec.NewDeclared N c.args.at c.args.variable (seen_ty c.args.ty.now) E (Some (seen_ty d))) _ _ _ _ c.get.ensures.value
    (first_refused _ _ _ _ _ c.in_err-fits-in-Some.ensures.value c.from_residual.ensures.1))

pub returns-in_ok-fits-in-Some-clause-value : goal.returns-in_ok-fits-in-Some-clause-value
returns-in_ok-fits-in-Some-clause-value c =
    let N = types_of c.args.program.now.names in
    let E = seen_environment c.args.env.now in
    moved (λ d. spec.NewDeclared N c.args.at c.args.variable (seen_ty c.args.ty.now) E (seen_slot d)) _ _ _ _ (sym c.in-Some.is)
    (moved (λ d. spec.NewDeclared N c.args.at c.args.variable (seen_ty c.args.ty.now) E (Some (seen_ty d))) _ _ _ _ c.get.ensures.value
    (next _ _ _ tt _ c.in_ok-fits-in-Some.ensures.value c.give_normal.ensures.value))
