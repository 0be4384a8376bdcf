use Rattle.wy_types.specs.Names.{types_of}
use Rattle.wy_flow_spec.specs.typing.Asked.{IsInt}
use Rattle.wy_flow_spec.specs.typing.Leaves.{Number}
use Rattle.wy_flow_exprs.specs.Seen.{seen_flow, seen_found}
use Rattle.wy_flow_exprs.proofs.FoundLemmas.{asked, not_asked}
use Rattle.wy_flow_exprs.proofs.operators.neg.Goals as goal

pub returns-clause-value : goal.returns-clause-value
returns-clause-value c =
    asked (IsInt (types_of c.args.program.now.names) c.args.at) (λ (u : Unit {0}). Number (seen_flow c.args.walk.now)) (seen_found (seen_flow c.number.new.walk)) tt c.number.result c.args.operand.ty c.get.result.now c.get.ensures.value c.in_ok-is_int.ensures.value c.number.ensures.value

pub returns-in_err-is_int-clause-value : goal.returns-in_err-is_int-clause-value
returns-in_err-is_int-clause-value c =
    not_asked (IsInt (types_of c.args.program.now.names) c.args.at) (λ (u : Unit {0}). Number (seen_flow c.args.walk.now)) (seen_found (seen_flow c.args.walk.now)) c.in_err-is_int.field-0.0 c.from_residual.result c.args.operand.ty c.get.result.now c.get.ensures.value c.in_err-is_int.ensures.value c.from_residual.ensures.1
