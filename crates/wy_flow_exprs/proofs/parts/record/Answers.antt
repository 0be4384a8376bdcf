use Rattle.std.proofs.Common.{◌∙◌, refl, ap}
use Rattle.wy_core.specs.Types.{RecordTy}
use Rattle.wy_core.specs.CoreSeen.{seen_ty, field_tys_of}
use Rattle.wy_types.specs.Names.{types_of}
use Rattle.wy_flow_spec.specs.typing.Parts.{OfNorm}
use Rattle.wy_flow_exprs.proofs.checks_lemmas.StepLemmas.{refused_on}
use Rattle.wy_flow_exprs.specs.Seen.{seen_field_types, seen_flow, seen_found}
use Rattle.wy_flow_exprs.proofs.FoundLemmas.{norm_found, norm_refused}
use Rattle.wy_flow_exprs.proofs.parts.record.Goals as goal

pub returns-clause-value : goal.returns-clause-value
returns-clause-value c =
    norm_found (types_of c.args.program.now.names) c.args.at (seen_ty c.in_ok-records.records) (RecordTy (field_tys_of (seen_field_types c.args.fields))) (seen_flow c.args.walk.now) (seen_flow c.args.walk.now) (seen_found (seen_flow c.of_type.new.walk)) c.of_type.result (seen_ty c.in_ok-ty.ty) (c.in_ok-records.ensures.value ∙ ap (λ fs. RecordTy (field_tys_of (seen_field_types fs))) c.as_slice.ensures) c.in_ok-ty.ensures.value refl c.of_type.ensures.value

pub returns-in_err-ty-clause-value : goal.returns-in_err-ty-clause-value
returns-in_err-ty-clause-value c =
    refused_on (OfNorm (types_of c.args.program.now.names) c.args.at (RecordTy (field_tys_of (seen_field_types c.args.fields))) (seen_flow c.args.walk.now)) (seen_found (seen_flow c.args.walk.now)) c.in_err-ty.field-0.0 c.from_residual-in_err-ty.result (norm_refused (types_of c.args.program.now.names) c.args.at (seen_ty c.in_ok-records.records) (RecordTy (field_tys_of (seen_field_types c.args.fields))) (seen_flow c.args.walk.now) c.in_err-ty.field-0.0 (c.in_ok-records.ensures.value ∙ ap (λ fs. RecordTy (field_tys_of (seen_field_types fs))) c.as_slice.ensures) c.in_err-ty.ensures.value) c.from_residual-in_err-ty.ensures.1
