use Rattle.wy_flow_spec.specs.environment.Seen.{seen_changes}
use Rattle.wy_types.specs.Names.{types_of}
use Rattle.wy_flow_spec.specs.typing.Asked.{IsBool}
use Rattle.wy_flow_spec.specs.typing.Leaves.{Truth}
use Rattle.wy_flow_exprs.specs.Seen.{seen_flow, seen_found}
use Rattle.wy_flow_exprs.proofs.FoundLemmas.{asked, not_asked}
use Rattle.wy_flow_exprs.proofs.operators.not.Goals as goal

pub returns-clause-value : goal.returns-clause-value
returns-clause-value c =
    asked (IsBool (types_of c.args.program.now.names) c.args.at) (λ (u : Unit {0}). Truth (seen_changes c.args.operand.no) (seen_changes c.args.operand.yes) (seen_flow c.args.walk.now)) (seen_found (seen_flow c.truth.new.walk)) tt c.truth.result c.args.operand.ty c.get.result.now c.get.ensures.value c.in_ok-is_bool.ensures.value c.truth.ensures.value

pub returns-in_err-is_bool-clause-value : goal.returns-in_err-is_bool-clause-value
returns-in_err-is_bool-clause-value c =
    not_asked (IsBool (types_of c.args.program.now.names) c.args.at) (λ (u : Unit {0}). Truth (seen_changes c.args.operand.no) (seen_changes c.args.operand.yes) (seen_flow c.args.walk.now)) (seen_found (seen_flow c.args.walk.now)) c.in_err-is_bool.field-0.0 c.from_residual.result c.args.operand.ty c.get.result.now c.get.ensures.value c.in_err-is_bool.ensures.value c.from_residual.ensures.1
