use Rattle.std.proofs.Common.{refl}
use Rattle.wy_core.specs.CoreSeen.{seen_ty}
use Rattle.wy_flow_spec.specs.environment.Variables.{int_type}
use Rattle.wy_types.specs.Names.{types_of}
use Rattle.wy_flow_spec.specs.typing.Leaves.{Number}
use Rattle.wy_flow_spec.specs.typing.Operators.{AreInts}
use Rattle.wy_flow_exprs.proofs.checks_lemmas.StepLemmas.{next, first_refused}
use Rattle.wy_flow_exprs.specs.Seen.{seen_flow, seen_found}
use Rattle.wy_flow_exprs.proofs.FoundLemmas.{type_at}
use Rattle.wy_flow_exprs.proofs.operators.arithmetic.Goals as goal

pub returns-clause-value : goal.returns-clause-value
returns-clause-value c =
    next (AreInts (types_of c.args.program.now.names) c.args.at (seen_ty c.args.left.ty) (seen_ty c.args.right.ty)) (λ (u : Unit {0}). Number (seen_flow c.args.walk.now)) (seen_found (seen_flow c.number.new.walk)) tt c.number.result c.in_ok-are_ints.ensures.value
    (type_at (seen_found (seen_flow c.number.new.walk)) c.number.result int_type int_type (seen_flow c.are_ints.new.walk) (seen_flow c.args.walk.now) refl c.in_ok-are_ints.ensures.flow c.number.ensures.value)

pub returns-in_err-are_ints-clause-value : goal.returns-in_err-are_ints-clause-value
returns-in_err-are_ints-clause-value c =
    first_refused (AreInts (types_of c.args.program.now.names) c.args.at (seen_ty c.args.left.ty) (seen_ty c.args.right.ty)) (λ (u : Unit {0}). Number (seen_flow c.args.walk.now)) (seen_found (seen_flow c.are_ints.new.walk)) c.in_err-are_ints.field-0.0 c.from_residual.result c.in_err-are_ints.ensures.value c.from_residual.ensures.1
