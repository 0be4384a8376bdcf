use Rattle.wy_core.specs.CoreSeen.{seen_ty}
use Rattle.wy_types.specs.Names.{types_of}
use Rattle.wy_flow_spec.specs.typing.Asked.{IsBool}
use Rattle.wy_flow_exprs.proofs.FoundLemmas.{asked, not_asked, last_asked}
use Rattle.wy_flow_exprs.proofs.operators.are_bools.Goals as goal

pub returns-clause-value : goal.returns-clause-value
returns-clause-value c =
    asked (IsBool (types_of c.args.program.now.names) c.args.at) (λ (u : Unit {0}). IsBool (types_of c.args.program.now.names) c.args.at (seen_ty c.args.right.now)) (λ (u : Unit {0}). u) tt c.is_bool-2.result c.args.left.now c.get.result.now c.get.ensures.value c.in_ok-is_bool.ensures.value
    (last_asked (IsBool (types_of c.args.program.now.names) c.args.at) (λ (u : Unit {0}). u) c.is_bool-2.result c.args.right.now c.get-2.result.now c.get-2.ensures.value c.is_bool-2.ensures.value)

pub returns-in_err-is_bool-clause-value : goal.returns-in_err-is_bool-clause-value
returns-in_err-is_bool-clause-value c =
    not_asked (IsBool (types_of c.args.program.now.names) c.args.at) (λ (u : Unit {0}). IsBool (types_of c.args.program.now.names) c.args.at (seen_ty c.args.right.now)) (λ (u : Unit {0}). u) c.in_err-is_bool.field-0.0 c.from_residual.result c.args.left.now c.get.result.now c.get.ensures.value c.in_err-is_bool.ensures.value c.from_residual.ensures.1
