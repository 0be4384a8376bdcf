use Rattle.std.proofs.Common.{Bool, inl, refl}
use Rattle.wy_core.specs.CoreSeen.{seen_ty}
use Rattle.wy_types.specs.Names.{types_of}
use Rattle.wy_types.specs.Questions.{IsWideWithin}
use Rattle.wy_flow_spec.specs.declared.typing.fault.FlowFault.{FlowFault}
use Rattle.wy_flow_spec.specs.typing.Outcomes.{Fails}
use Rattle.wy_flow_spec.specs.typing.Asked.{Within}
use Rattle.wy_flow_exprs.proofs.checks_lemmas.AnswerLemmas.{refused, within_verdict}
use Rattle.wy_flow_exprs.proofs.checks.checks.is_within.Goals as goal

pub returns-in-Ok-clause-value : goal.returns-in-Ok-clause-value
returns-in-Ok-clause-value c =
    within_verdict (types_of c.args.names.now) c.args.at c.args.fault (seen_ty c.args.ty.now) (seen_ty c.args.other.now) c.in-Ok.yes c.verdict.result c.verdict.ensures.value c.in-Ok.ensures.sound (λ b. let h = c.in-Ok.ensures.complete b in (h.0, h.1.0, h.1.1)) c.in-Ok.ensures.narrow

pub returns-in-Err-clause-value : goal.returns-in-Err-clause-value
returns-in-Err-clause-value c =
    let names = types_of c.args.names.now in
    let a = seen_ty c.args.ty.now in
    let b = seen_ty c.args.other.now in
    refused Bool c.args.at (IsWideWithin names a b) (λ (f : FlowFault). Within names c.args.at c.args.fault a b (Fails f)) (λ w. inl (w, refl)) c.in-Err.refusal c.in-Err.ensures.wide c.asked_at.result c.asked_at.ensures.value
