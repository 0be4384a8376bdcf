use Rattle.std.proofs.Common.{◌∙◌, refl, ap}
use Rattle.wy_core.specs.Types.{ArrayTy}
use Rattle.wy_core.specs.CoreSeen.{seen_ty}
use Rattle.wy_types.specs.Names.{types_of}
use Rattle.wy_flow_spec.specs.typing.Asked.{IsInt}
use Rattle.wy_flow_spec.specs.typing.Parts.{OfNorm}
use Rattle.wy_flow_exprs.proofs.checks_lemmas.StepLemmas.{refused_on}
use Rattle.wy_flow_exprs.specs.Seen.{seen_flow, seen_found}
use Rattle.wy_flow_exprs.proofs.FoundLemmas.{asked, not_asked, norm_found, norm_refused}
use Rattle.wy_flow_exprs.proofs.parts.repeat.Goals as goal

pub returns-clause-value : goal.returns-clause-value
returns-clause-value c =
    asked (IsInt (types_of c.args.program.now.names) c.args.at) (λ (u : Unit {0}). OfNorm (types_of c.args.program.now.names) c.args.at (ArrayTy (seen_ty c.args.item.ty)) (seen_flow c.args.walk.now)) (seen_found (seen_flow c.of_type.new.walk)) tt c.of_type.result c.args.count.ty c.get.result.now c.get.ensures.value c.in_ok-is_int.ensures.value
    (norm_found (types_of c.args.program.now.names) c.args.at (seen_ty c.in_ok-arrays.arrays) (ArrayTy (seen_ty c.args.item.ty)) (seen_flow c.args.walk.now) (seen_flow c.args.walk.now) (seen_found (seen_flow c.of_type.new.walk)) c.of_type.result (seen_ty c.in_ok-ty.ty) (c.in_ok-arrays.ensures.value ∙ ap (λ t. ArrayTy (seen_ty t)) (c.in_ok-copy.ensures.value ∙ c.get-2.ensures.value)) c.in_ok-ty.ensures.value refl c.of_type.ensures.value)

pub returns-in_err-is_int-clause-value : goal.returns-in_err-is_int-clause-value
returns-in_err-is_int-clause-value c =
    not_asked (IsInt (types_of c.args.program.now.names) c.args.at) (λ (u : Unit {0}). OfNorm (types_of c.args.program.now.names) c.args.at (ArrayTy (seen_ty c.args.item.ty)) (seen_flow c.args.walk.now)) (seen_found (seen_flow c.args.walk.now)) c.in_err-is_int.field-0.0 c.from_residual.result c.args.count.ty c.get.result.now c.get.ensures.value c.in_err-is_int.ensures.value c.from_residual.ensures.1

pub returns-in_err-ty-clause-value : goal.returns-in_err-ty-clause-value
returns-in_err-ty-clause-value c =
    asked (IsInt (types_of c.args.program.now.names) c.args.at) (λ (u : Unit {0}). OfNorm (types_of c.args.program.now.names) c.args.at (ArrayTy (seen_ty c.args.item.ty)) (seen_flow c.args.walk.now)) (seen_found (seen_flow c.args.walk.now)) tt c.from_residual-in_err-ty.result c.args.count.ty c.get.result.now c.get.ensures.value c.in_ok-is_int.ensures.value
    (refused_on (OfNorm (types_of c.args.program.now.names) c.args.at (ArrayTy (seen_ty c.args.item.ty)) (seen_flow c.args.walk.now)) (seen_found (seen_flow c.args.walk.now)) c.in_err-ty.field-0.0 c.from_residual-in_err-ty.result (norm_refused (types_of c.args.program.now.names) c.args.at (seen_ty c.in_ok-arrays.arrays) (ArrayTy (seen_ty c.args.item.ty)) (seen_flow c.args.walk.now) c.in_err-ty.field-0.0 (c.in_ok-arrays.ensures.value ∙ ap (λ t. ArrayTy (seen_ty t)) (c.in_ok-copy.ensures.value ∙ c.get-2.ensures.value)) c.in_err-ty.ensures.value) c.from_residual-in_err-ty.ensures.1)
