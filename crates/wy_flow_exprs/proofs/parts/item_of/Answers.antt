use Rattle.wy_core.specs.CoreSeen.{seen_ty}
use Rattle.wy_types.specs.Names.{types_of}
use Rattle.wy_flow_spec.specs.typing.Asked.{IsInt, IsArray, Element}
use Rattle.wy_flow_spec.specs.typing.Outcomes.{Then}
use Rattle.wy_flow_exprs.proofs.FoundLemmas.{asked, not_asked, last_asked}
use Rattle.wy_flow_exprs.proofs.parts.item_of.Goals as goal

pub returns-clause-value : goal.returns-clause-value
returns-clause-value c =
    asked (IsArray (types_of c.args.program.now.names) c.args.at) (λ (u : Unit {0}). Then (IsInt (types_of c.args.program.now.names) c.args.at (seen_ty c.args.index.now)) (λ (u : Unit {0}). Element (types_of c.args.program.now.names) c.args.at (seen_ty c.args.array.now))) seen_ty tt c.element_at.result c.args.array.now c.get.result.now c.get.ensures.value c.in_ok-is_array.ensures.value
    (asked (IsInt (types_of c.args.program.now.names) c.args.at) (λ (u : Unit {0}). Element (types_of c.args.program.now.names) c.args.at (seen_ty c.args.array.now)) seen_ty tt c.element_at.result c.args.index.now c.get-2.result.now c.get-2.ensures.value c.in_ok-is_int.ensures.value
    (last_asked (Element (types_of c.args.program.now.names) c.args.at) seen_ty c.element_at.result c.args.array.now c.get-3.result.now c.get-3.ensures.value c.element_at.ensures.value))

pub returns-in_err-is_array-clause-value : goal.returns-in_err-is_array-clause-value
returns-in_err-is_array-clause-value c =
    not_asked (IsArray (types_of c.args.program.now.names) c.args.at) (λ (u : Unit {0}). Then (IsInt (types_of c.args.program.now.names) c.args.at (seen_ty c.args.index.now)) (λ (u : Unit {0}). Element (types_of c.args.program.now.names) c.args.at (seen_ty c.args.array.now))) seen_ty c.in_err-is_array.field-0.0 c.from_residual.result c.args.array.now c.get.result.now c.get.ensures.value c.in_err-is_array.ensures.value c.from_residual.ensures.1

pub returns-in_err-is_int-clause-value : goal.returns-in_err-is_int-clause-value
returns-in_err-is_int-clause-value c =
    asked (IsArray (types_of c.args.program.now.names) c.args.at) (λ (u : Unit {0}). Then (IsInt (types_of c.args.program.now.names) c.args.at (seen_ty c.args.index.now)) (λ (u : Unit {0}). Element (types_of c.args.program.now.names) c.args.at (seen_ty c.args.array.now))) seen_ty tt c.from_residual-in_err-is_int.result c.args.array.now c.get.result.now c.get.ensures.value c.in_ok-is_array.ensures.value
    (not_asked (IsInt (types_of c.args.program.now.names) c.args.at) (λ (u : Unit {0}). Element (types_of c.args.program.now.names) c.args.at (seen_ty c.args.array.now)) seen_ty c.in_err-is_int.field-0.0 c.from_residual-in_err-is_int.result c.args.index.now c.get-2.result.now c.get-2.ensures.value c.in_err-is_int.ensures.value c.from_residual-in_err-is_int.ensures.1)
