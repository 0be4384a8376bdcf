use Rattle.std.proofs.Common.{ap, []}
use Rattle.wy_core.specs.CoreSeen.{seen_ty}
use Rattle.wy_flow_spec.specs.environment.Seen.{seen_changes}
use Rattle.wy_types.specs.Names.{types_of}
use Rattle.wy_flow_spec.specs.typing.Leaves.{Truth}
use Rattle.wy_flow_spec.specs.typing.Operators.{AreInts}
use Rattle.wy_flow_exprs.proofs.checks_lemmas.StepLemmas.{next, first_refused}
use Rattle.wy_flow_exprs.specs.Seen.{seen_flow, seen_found}
use Rattle.wy_flow_exprs.proofs.FoundLemmas.{truth_at}
use Rattle.wy_flow_exprs.proofs.operators.comparison.Goals as goal

pub returns-clause-value : goal.returns-clause-value
returns-clause-value c =
    next (AreInts (types_of c.args.program.now.names) c.args.at (seen_ty c.args.left.ty) (seen_ty c.args.right.ty)) (λ (u : Unit {0}). Truth [] [] (seen_flow c.args.walk.now)) (seen_found (seen_flow c.truth.new.walk)) tt c.truth.result c.in_ok-are_ints.ensures.value
    (truth_at (seen_found (seen_flow c.truth.new.walk)) c.truth.result (seen_changes c.new.result) [] (seen_changes c.new-2.result) [] (seen_flow c.are_ints.new.walk) (seen_flow c.args.walk.now) (ap seen_changes c.new.ensures) (ap seen_changes c.new-2.ensures) c.in_ok-are_ints.ensures.flow c.truth.ensures.value)

pub returns-in_err-are_ints-clause-value : goal.returns-in_err-are_ints-clause-value
returns-in_err-are_ints-clause-value c =
    first_refused (AreInts (types_of c.args.program.now.names) c.args.at (seen_ty c.args.left.ty) (seen_ty c.args.right.ty)) (λ (u : Unit {0}). Truth [] [] (seen_flow c.args.walk.now)) (seen_found (seen_flow c.are_ints.new.walk)) c.in_err-are_ints.field-0.0 c.from_residual.result c.in_err-are_ints.ensures.value c.from_residual.ensures.1
