use Rattle.std.proofs.Common.{◌≡◌, ◌∙◌, subst}
use Rattle.wy_core.specs.Types as ty
use Rattle.wy_core.specs.CoreSeen.{seen_ty}
use Rattle.wy_types.specs.Names.{types_of}
use Rattle.wy_flow_spec.specs.declared.typing.fault.FlowFault.TheVariants.{NotInt}
use Rattle.wy_flow_spec.specs.typing.Asked.{Within}
use Rattle.wy_flow_spec.specs.typing.Outcomes.{Meets}
use Rattle.wy_flow_exprs.proofs.checks_lemmas.KindLemmas.{int_kind}
use Rattle.wy_flow_exprs.proofs.checks.checks.is_int.Goals as goal

pub returns-clause-value : goal.returns-clause-value
returns-clause-value c =
    let is : seen_ty c.plain-int.result ≡ ty.IntTy = c.plain-int.ensures.value ∙ int_kind in
    subst (λ (t : ty.Ty). Meets (Within (types_of c.args.names.now) c.args.at (NotInt c.args.at) (seen_ty c.args.ty.now) t) (λ (u : Unit {0}). u) c.is_within.result) is c.is_within.ensures.value
