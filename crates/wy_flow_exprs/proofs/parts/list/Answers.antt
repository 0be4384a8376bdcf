use Rattle.std.proofs.Common.{◌∙◌, refl, ap}
use Rattle.wy_core.specs.Types.{ArrayTy}
use Rattle.wy_core.specs.CoreSeen.{seen_ty}
use Rattle.wy_types.specs.Names.{types_of}
use Rattle.wy_flow_spec.specs.typing.Parts.{OfNorm, union_all}
use Rattle.wy_flow_exprs.proofs.checks_lemmas.StepLemmas.{refused_on}
use Rattle.wy_flow_exprs.specs.Seen.{seen_flow, seen_found, seen_types}
use Rattle.wy_flow_exprs.proofs.FoundLemmas.{norm_found, norm_refused}
use Rattle.wy_flow_exprs.proofs.parts.list.Goals as goal

pub returns-clause-value : goal.returns-clause-value
returns-clause-value c =
    norm_found (types_of c.args.program.now.names) c.args.at (seen_ty c.in_ok-arrays.arrays) (ArrayTy (union_all (seen_types c.args.items))) (seen_flow c.args.walk.now) (seen_flow c.args.walk.now) (seen_found (seen_flow c.of_type.new.walk)) c.of_type.result (seen_ty c.in_ok-ty.ty) (c.in_ok-arrays.ensures.value ∙ ap ArrayTy (c.in_ok-union.ensures.value ∙ ap (λ ts. union_all (seen_types ts)) c.as_slice.ensures)) c.in_ok-ty.ensures.value refl c.of_type.ensures.value

pub returns-in_err-ty-clause-value : goal.returns-in_err-ty-clause-value
returns-in_err-ty-clause-value c =
    refused_on (OfNorm (types_of c.args.program.now.names) c.args.at (ArrayTy (union_all (seen_types c.args.items))) (seen_flow c.args.walk.now)) (seen_found (seen_flow c.args.walk.now)) c.in_err-ty.field-0.0 c.from_residual-in_err-ty.result (norm_refused (types_of c.args.program.now.names) c.args.at (seen_ty c.in_ok-arrays.arrays) (ArrayTy (union_all (seen_types c.args.items))) (seen_flow c.args.walk.now) c.in_err-ty.field-0.0 (c.in_ok-arrays.ensures.value ∙ ap ArrayTy (c.in_ok-union.ensures.value ∙ ap (λ ts. union_all (seen_types ts)) c.as_slice.ensures)) c.in_err-ty.ensures.value) c.from_residual-in_err-ty.ensures.1
