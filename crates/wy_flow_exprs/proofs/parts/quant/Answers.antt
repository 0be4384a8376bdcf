use Rattle.std.proofs.Common.{refl, ap, []}
use Rattle.wy_core.specs.CoreSeen.{seen_ty}
use Rattle.wy_flow_spec.specs.environment.Seen.{seen_changes}
use Rattle.wy_types.specs.Names.{types_of}
use Rattle.wy_flow_spec.specs.typing.Asked.{IsInt, IsBool}
use Rattle.wy_flow_spec.specs.typing.Leaves.{Truth}
use Rattle.wy_flow_spec.specs.typing.Outcomes.{Then}
use Rattle.wy_flow_exprs.specs.Seen.{seen_flow, seen_found}
use Rattle.wy_flow_exprs.proofs.FoundLemmas.{asked, not_asked, truth_at}
use Rattle.wy_flow_exprs.proofs.parts.quant.Goals as goal

pub returns-clause-value : goal.returns-clause-value
returns-clause-value c =
    asked (IsBool (types_of c.args.program.now.names) c.args.at) (λ (u : Unit {0}). Then (IsInt (types_of c.args.program.now.names) c.args.at (seen_ty c.args.from.ty)) (λ (u : Unit {0}). Then (IsInt (types_of c.args.program.now.names) c.args.at (seen_ty c.args.to.ty)) (λ (u : Unit {0}). Truth [] [] (seen_flow c.args.walk.now)))) (seen_found (seen_flow c.truth.new.walk)) tt c.truth.result c.args.body.ty c.get.result.now c.get.ensures.value c.in_ok-is_bool.ensures.value
    (asked (IsInt (types_of c.args.program.now.names) c.args.at) (λ (u : Unit {0}). Then (IsInt (types_of c.args.program.now.names) c.args.at (seen_ty c.args.to.ty)) (λ (u : Unit {0}). Truth [] [] (seen_flow c.args.walk.now))) (seen_found (seen_flow c.truth.new.walk)) tt c.truth.result c.args.from.ty c.get-2.result.now c.get-2.ensures.value c.in_ok-is_int.ensures.value
    (asked (IsInt (types_of c.args.program.now.names) c.args.at) (λ (u : Unit {0}). Truth [] [] (seen_flow c.args.walk.now)) (seen_found (seen_flow c.truth.new.walk)) tt c.truth.result c.args.to.ty c.get-3.result.now c.get-3.ensures.value c.in_ok-is_int-2.ensures.value
    (truth_at (seen_found (seen_flow c.truth.new.walk)) c.truth.result (seen_changes c.new.result) [] (seen_changes c.new-2.result) [] (seen_flow c.args.walk.now) (seen_flow c.args.walk.now) (ap seen_changes c.new.ensures) (ap seen_changes c.new-2.ensures) refl c.truth.ensures.value)))

pub returns-in_err-is_bool-clause-value : goal.returns-in_err-is_bool-clause-value
returns-in_err-is_bool-clause-value c =
    not_asked (IsBool (types_of c.args.program.now.names) c.args.at) (λ (u : Unit {0}). Then (IsInt (types_of c.args.program.now.names) c.args.at (seen_ty c.args.from.ty)) (λ (u : Unit {0}). Then (IsInt (types_of c.args.program.now.names) c.args.at (seen_ty c.args.to.ty)) (λ (u : Unit {0}). Truth [] [] (seen_flow c.args.walk.now)))) (seen_found (seen_flow c.args.walk.now)) c.in_err-is_bool.field-0.0 c.from_residual.result c.args.body.ty c.get.result.now c.get.ensures.value c.in_err-is_bool.ensures.value c.from_residual.ensures.1

pub returns-in_err-is_int-clause-value : goal.returns-in_err-is_int-clause-value
returns-in_err-is_int-clause-value c =
    asked (IsBool (types_of c.args.program.now.names) c.args.at) (λ (u : Unit {0}). Then (IsInt (types_of c.args.program.now.names) c.args.at (seen_ty c.args.from.ty)) (λ (u : Unit {0}). Then (IsInt (types_of c.args.program.now.names) c.args.at (seen_ty c.args.to.ty)) (λ (u : Unit {0}). Truth [] [] (seen_flow c.args.walk.now)))) (seen_found (seen_flow c.args.walk.now)) tt c.from_residual-in_err-is_int.result c.args.body.ty c.get.result.now c.get.ensures.value c.in_ok-is_bool.ensures.value
    (not_asked (IsInt (types_of c.args.program.now.names) c.args.at) (λ (u : Unit {0}). Then (IsInt (types_of c.args.program.now.names) c.args.at (seen_ty c.args.to.ty)) (λ (u : Unit {0}). Truth [] [] (seen_flow c.args.walk.now))) (seen_found (seen_flow c.args.walk.now)) c.in_err-is_int.field-0.0 c.from_residual-in_err-is_int.result c.args.from.ty c.get-2.result.now c.get-2.ensures.value c.in_err-is_int.ensures.value c.from_residual-in_err-is_int.ensures.1)

pub returns-in_err-is_int-2-clause-value : goal.returns-in_err-is_int-2-clause-value
returns-in_err-is_int-2-clause-value c =
    asked (IsBool (types_of c.args.program.now.names) c.args.at) (λ (u : Unit {0}). Then (IsInt (types_of c.args.program.now.names) c.args.at (seen_ty c.args.from.ty)) (λ (u : Unit {0}). Then (IsInt (types_of c.args.program.now.names) c.args.at (seen_ty c.args.to.ty)) (λ (u : Unit {0}). Truth [] [] (seen_flow c.args.walk.now)))) (seen_found (seen_flow c.args.walk.now)) tt c.from_residual-in_err-is_int-2.result c.args.body.ty c.get.result.now c.get.ensures.value c.in_ok-is_bool.ensures.value
    (asked (IsInt (types_of c.args.program.now.names) c.args.at) (λ (u : Unit {0}). Then (IsInt (types_of c.args.program.now.names) c.args.at (seen_ty c.args.to.ty)) (λ (u : Unit {0}). Truth [] [] (seen_flow c.args.walk.now))) (seen_found (seen_flow c.args.walk.now)) tt c.from_residual-in_err-is_int-2.result c.args.from.ty c.get-2.result.now c.get-2.ensures.value c.in_ok-is_int.ensures.value
    (not_asked (IsInt (types_of c.args.program.now.names) c.args.at) (λ (u : Unit {0}). Truth [] [] (seen_flow c.args.walk.now)) (seen_found (seen_flow c.args.walk.now)) c.in_err-is_int-2.field-0.0 c.from_residual-in_err-is_int-2.result c.args.to.ty c.get-3.result.now c.get-3.ensures.value c.in_err-is_int-2.ensures.value c.from_residual-in_err-is_int-2.ensures.1))
