use Rattle.wy_core.specs.CoreSeen.{seen_ty}
use Rattle.wy_types.specs.Names.{types_of}
use Rattle.wy_flow_spec.specs.typing.Asked.{IsInt}
use Rattle.wy_flow_exprs.proofs.FoundLemmas.{asked, not_asked, last_asked}
use Rattle.wy_flow_exprs.proofs.operators.are_ints.Goals as goal

pub returns-clause-value : goal.returns-clause-value
returns-clause-value c =
    asked (IsInt (types_of c.args.program.now.names) c.args.at) (λ (u : Unit {0}). IsInt (types_of c.args.program.now.names) c.args.at (seen_ty c.args.right.now)) (λ (u : Unit {0}). u) tt c.is_int-2.result c.args.left.now c.get.result.now c.get.ensures.value c.in_ok-is_int.ensures.value
    (last_asked (IsInt (types_of c.args.program.now.names) c.args.at) (λ (u : Unit {0}). u) c.is_int-2.result c.args.right.now c.get-2.result.now c.get-2.ensures.value c.is_int-2.ensures.value)

pub returns-in_err-is_int-clause-value : goal.returns-in_err-is_int-clause-value
returns-in_err-is_int-clause-value c =
    not_asked (IsInt (types_of c.args.program.now.names) c.args.at) (λ (u : Unit {0}). IsInt (types_of c.args.program.now.names) c.args.at (seen_ty c.args.right.now)) (λ (u : Unit {0}). u) c.in_err-is_int.field-0.0 c.from_residual.result c.args.left.now c.get.result.now c.get.ensures.value c.in_err-is_int.ensures.value c.from_residual.ensures.1
