use Rattle.std.proofs.Common.{◌≡◌, ap, ◌∙◌, subst}
use Rattle.wy_core.specs.Types as ty
use Rattle.wy_core.specs.CoreSeen.{seen_ty}
use Rattle.wy_types.specs.Names.{types_of}
use Rattle.wy_flow_spec.specs.declared.typing.fault.FlowFault.TheVariants.{NotArray}
use Rattle.wy_flow_spec.specs.typing.Asked.{Within}
use Rattle.wy_flow_spec.specs.typing.Outcomes.{Meets}
use Rattle.wy_flow_exprs.proofs.checks_lemmas.KindLemmas.{any_kind}
use Rattle.wy_flow_exprs.proofs.checks.checks.is_array.Goals as goal

pub returns-clause-value : goal.returns-clause-value
returns-clause-value c =
    let any : seen_ty c.plain.result ≡ ty.AnyTy = c.plain.ensures.value ∙ any_kind in
    let is : seen_ty c.in_ok-arrays.arrays ≡ ty.ArrayTy ty.AnyTy = c.in_ok-arrays.ensures.value ∙ ap (λ (t : ty.Ty). ty.ArrayTy t) any in
    subst (λ (t : ty.Ty). Meets (Within (types_of c.args.names.now) c.args.at (NotArray c.args.at) (seen_ty c.args.ty.now) t) (λ (u : Unit {0}). u) c.is_within.result) is c.is_within.ensures.value
