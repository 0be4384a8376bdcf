use Rattle.std.proofs.Common.{refl}
use Rattle.wy_core.specs.Types.{Ty}
use Rattle.wy_core.specs.CoreSeen.{seen_ty}
use Rattle.wy_types.specs.Names.{types_of}
use Rattle.wy_flow_spec.specs.typing.Leaves.{OfType}
use Rattle.wy_flow_spec.specs.typing.Parts.{ItemOf}
use Rattle.wy_flow_exprs.proofs.checks_lemmas.StepLemmas.{next, first_refused}
use Rattle.wy_flow_exprs.specs.Seen.{seen_flow, seen_found}
use Rattle.wy_flow_exprs.proofs.FoundLemmas.{type_at}
use Rattle.wy_flow_exprs.proofs.parts.index.Goals as goal

pub returns-clause-value : goal.returns-clause-value
returns-clause-value c =
    next (ItemOf (types_of c.args.program.now.names) c.args.at (seen_ty c.args.array.ty) (seen_ty c.args.index.ty)) (λ (t : Ty). OfType t (seen_flow c.args.walk.now)) (seen_found (seen_flow c.of_type.new.walk)) (seen_ty c.in_ok-ty.ty) c.of_type.result c.in_ok-ty.ensures.value
    (type_at (seen_found (seen_flow c.of_type.new.walk)) c.of_type.result (seen_ty c.in_ok-ty.ty) (seen_ty c.in_ok-ty.ty) (seen_flow c.item_of.new.walk) (seen_flow c.args.walk.now) refl c.in_ok-ty.ensures.flow c.of_type.ensures.value)

pub returns-in_err-ty-clause-value : goal.returns-in_err-ty-clause-value
returns-in_err-ty-clause-value c =
    first_refused (ItemOf (types_of c.args.program.now.names) c.args.at (seen_ty c.args.array.ty) (seen_ty c.args.index.ty)) (λ (t : Ty). OfType t (seen_flow c.args.walk.now)) (seen_found (seen_flow c.item_of.new.walk)) c.in_err-ty.field-0.0 c.from_residual.result c.in_err-ty.ensures.value c.from_residual.ensures.1
