use Rattle.std.proofs.Common.{refl}
use Rattle.wy_core.specs.CoreSeen.{seen_ty}
use Rattle.wy_flow_exprs.specs.Seen.{seen_flow, seen_found}
use Rattle.wy_types.specs.Names.{types_of}
use Rattle.wy_flow_spec.specs.typing.Asked as asked
use Rattle.wy_flow_spec.specs.typing.Outcomes.{Gives, Fails, gave}
use Rattle.wy_flow_exprs.proofs.checks_lemmas.StepLemmas.{next, first_refused}
use Rattle.wy_flow.proofs.WalkLemmas.{shifted}
use Rattle.wy_flow.proofs.branches.tested.Goals as goal

pub returns-in_err-found-clause-value : goal.returns-in_err-found-clause-value
returns-in_err-found-clause-value c =
    first_refused _ _ _ _ _ c.in_err-found.ensures.value c.from_residual.ensures.1

pub returns-in_err-is_bool-clause-value : goal.returns-in_err-is_bool-clause-value
returns-in_err-is_bool-clause-value c =
    let N = types_of c.args.program.now.names in
    next _ _ _ (seen_found (seen_flow c.typed.new.walk) c.in_ok-found.found) _ c.in_ok-found.ensures.value
    (first_refused _ _ _ _ _ (λ n. (shifted (λ t. asked.IsBool N c.args.at (seen_ty t)) (Fails c.in_err-is_bool.field-0.0) _ _ c.get.ensures.value (c.in_err-is_bool.ensures.value n))) c.from_residual-in_err-is_bool.ensures.1)

pub returns-clause-value : goal.returns-clause-value
returns-clause-value c =
    let N = types_of c.args.program.now.names in
    gave (seen_found (seen_flow c.typed.new.walk) c.in_ok-found.found) _ c.in_ok-found.ensures.value (gave tt _ (shifted (λ t. asked.IsBool N c.args.at (seen_ty t)) (Gives tt) _ _ c.get.ensures.value c.in_ok-is_bool.ensures.value) refl)
