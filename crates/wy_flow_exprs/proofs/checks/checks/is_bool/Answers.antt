use Rattle.std.proofs.Common.{◌≡◌, ◌∙◌, subst}
use Rattle.wy_core.specs.Types as ty
use Rattle.wy_core.specs.CoreSeen.{seen_ty}
use Rattle.wy_types.specs.Names.{types_of}
use Rattle.wy_flow_spec.specs.declared.typing.fault.FlowFault.TheVariants.{NotBool}
use Rattle.wy_flow_spec.specs.typing.Asked.{Within}
use Rattle.wy_flow_spec.specs.typing.Outcomes.{Meets}
use Rattle.wy_flow_exprs.proofs.checks_lemmas.KindLemmas.{bool_kind}
use Rattle.wy_flow_exprs.proofs.checks.checks.is_bool.Goals as goal

pub returns-clause-value : goal.returns-clause-value
returns-clause-value c =
    let is : seen_ty c.plain-bool_ty.result ≡ ty.BoolTy = c.plain-bool_ty.ensures.value ∙ bool_kind in
    subst (λ (t : ty.Ty). Meets (Within (types_of c.args.names.now) c.args.at (NotBool c.args.at) (seen_ty c.args.ty.now) t) (λ (u : Unit {0}). u) c.is_within.result) is c.is_within.ensures.value
