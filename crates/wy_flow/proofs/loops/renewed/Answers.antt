use Rattle.std.proofs.Common.{Some, sym, ap}
use Rattle.wy_core.specs.CoreSeen.{seen_ty}
use Rattle.wy_flow_spec.specs.environment.Seen.{seen_environment, seen_slot}
use Rattle.wy_types.specs.Names.{types_of}
use Rattle.wy_flow_spec.specs.typing.Loops as loops
use Rattle.wy_flow_spec.specs.typing.Outcomes.{Gives, gave}
use Rattle.wy_flow_exprs.proofs.checks_lemmas.StepLemmas.{first_refused}
use Rattle.wy_flow.proofs.WalkLemmas.{moved, shifted}
use Rattle.wy_flow.proofs.loops.renewed.Goals as goal

pub returns-in_err-made-in-Some-clause-value : goal.returns-in_err-made-in-Some-clause-value
returns-in_err-made-in-Some-clause-value c =
    let N = types_of c.args.program.now.names in
    let E = seen_environment c.args.env in
    moved (λ d. loops.Renewed N c.args.at E c.args.variable (seen_slot d)) _ _ _ _ (sym c.in-Some.is)
    (moved (λ t. loops.Renewed N c.args.at E c.args.variable (Some (seen_ty t))) _ _ _ _ c.get.ensures.value
    (first_refused _ _ _ _ _ c.in_err-made-in-Some.ensures.value c.from_residual.ensures.1))

pub returns-in_ok-give-in-Some-clause-value : goal.returns-in_ok-give-in-Some-clause-value
returns-in_ok-give-in-Some-clause-value c =
    let N = types_of c.args.program.now.names in
    let E = seen_environment c.args.env in
    shifted (λ d. loops.Renewed N c.args.at E c.args.variable (seen_slot d)) _ _ _ (sym c.in-Some.is)
    (shifted (λ t. loops.Renewed N c.args.at E c.args.variable (Some (seen_ty t))) _ _ _ c.get.ensures.value
    (gave (seen_ty c.in_ok-made-in-Some.made) _ c.in_ok-made-in-Some.ensures.value (ap (λ e. Gives e) c.in_ok-give-in-Some.ensures.value)))
