use Rattle.wy_core.specs.Types.{Ty}
use Rattle.wy_core.specs.CoreSeen.{seen_ty}
use Rattle.wy_types.specs.Names.{types_of}
use Rattle.wy_flow_spec.specs.typing.Asked.{Field}
use Rattle.wy_flow_spec.specs.typing.Leaves.{OfType}
use Rattle.wy_flow_exprs.specs.Seen.{seen_flow, seen_found}
use Rattle.wy_flow_exprs.proofs.FoundLemmas.{asked, not_asked}
use Rattle.wy_flow_exprs.proofs.parts.field.Goals as goal

pub returns-clause-value : goal.returns-clause-value
returns-clause-value c =
    asked (Field (types_of c.args.program.now.names) c.args.at c.args.name.now) (λ (t : Ty). OfType t (seen_flow c.args.walk.now)) (seen_found (seen_flow c.of_type.new.walk)) (seen_ty c.in_ok-ty.ty) c.of_type.result c.args.whole.ty c.get.result.now c.get.ensures.value c.in_ok-ty.ensures.value c.of_type.ensures.value

pub returns-in_err-ty-clause-value : goal.returns-in_err-ty-clause-value
returns-in_err-ty-clause-value c =
    not_asked (Field (types_of c.args.program.now.names) c.args.at c.args.name.now) (λ (t : Ty). OfType t (seen_flow c.args.walk.now)) (seen_found (seen_flow c.args.walk.now)) c.in_err-ty.field-0.0 c.from_residual.result c.args.whole.ty c.get.result.now c.get.ensures.value c.in_err-ty.ensures.value c.from_residual.ensures.1
