use Rattle.std.proofs.Common.{◌∙◌}
use Rattle.wy_core.specs.CoreSeen.{seen_ty}
use Rattle.wy_flow_spec.specs.environment.Seen.{seen_changes}
use Rattle.wy_types.specs.Names.{types_of}
use Rattle.wy_flow_spec.specs.typing.Narrowing.{IsVariable}
use Rattle.wy_flow_spec.specs.typing.Outcomes.{Gives, Fails}
use Rattle.wy_flow_exprs.proofs.checks_lemmas.StepLemmas.{refused_on}
use Rattle.wy_flow_exprs.specs.Seen.{seen_flow, seen_found}
use Rattle.wy_flow_exprs.proofs.FoundLemmas.{is_variable_found, is_variable_refused, is_variable_stopped, meet_at}
use Rattle.wy_flow_exprs.proofs.narrowing.is_variable.Goals as goal

pub returns-clause-value : goal.returns-clause-value
returns-clause-value c =
    is_variable_found (types_of c.args.program.now.names) c.args.at c.args.variable (seen_ty c.args.operand.ty) (seen_ty c.args.ty.now) (seen_flow c.args.walk.now) (seen_flow c.meet-2.new.walk) (seen_found (seen_flow c.truth.new.walk)) c.truth.result (seen_ty c.in_ok-yes.yes) (seen_ty c.in_ok-no.no) (seen_ty c.in_ok-outside.outside) (seen_changes c.in_ok-yes-2.yes) (seen_changes c.in_ok-no-2.no)
    (meet_at (types_of c.args.program.now.names) c.args.at c.args.operand.ty c.get.result.now (seen_ty c.args.ty.now) (Gives (seen_ty c.in_ok-yes.yes)) c.get.ensures.value c.in_ok-yes.ensures.value) c.in_ok-outside.ensures.value
    (meet_at (types_of c.args.program.now.names) c.args.at c.args.operand.ty c.get-2.result.now (seen_ty c.in_ok-outside.outside) (Gives (seen_ty c.in_ok-no.no)) c.get-2.ensures.value c.in_ok-no.ensures.value)
    c.in_ok-yes-2.ensures.value c.in_ok-no-2.ensures.value (c.in_ok-no.ensures.flow ∙ c.in_ok-yes.ensures.flow) c.truth.ensures.value

pub returns-in_err-yes-clause-value : goal.returns-in_err-yes-clause-value
returns-in_err-yes-clause-value c =
    refused_on (IsVariable (types_of c.args.program.now.names) c.args.at c.args.variable (seen_ty c.args.operand.ty) (seen_ty c.args.ty.now) (seen_flow c.args.walk.now)) (seen_found (seen_flow c.meet.new.walk)) c.in_err-yes.field-0.0 c.from_residual.result
    (is_variable_stopped (types_of c.args.program.now.names) c.args.at c.args.variable (seen_ty c.args.operand.ty) (seen_ty c.args.ty.now) (seen_flow c.args.walk.now) c.in_err-yes.field-0.0 (λ n. meet_at (types_of c.args.program.now.names) c.args.at c.args.operand.ty c.get.result.now (seen_ty c.args.ty.now) (Fails c.in_err-yes.field-0.0) c.get.ensures.value (c.in_err-yes.ensures.value n))) c.from_residual.ensures.1

pub returns-in_err-no-clause-value : goal.returns-in_err-no-clause-value
returns-in_err-no-clause-value c =
    refused_on (IsVariable (types_of c.args.program.now.names) c.args.at c.args.variable (seen_ty c.args.operand.ty) (seen_ty c.args.ty.now) (seen_flow c.args.walk.now)) (seen_found (seen_flow c.meet-2.new.walk)) c.in_err-no.field-0.0 c.from_residual-in_err-no.result
    (is_variable_refused (types_of c.args.program.now.names) c.args.at c.args.variable (seen_ty c.args.operand.ty) (seen_ty c.args.ty.now) (seen_flow c.args.walk.now) (seen_ty c.in_ok-yes.yes) (seen_ty c.in_ok-outside.outside) c.in_err-no.field-0.0
    (meet_at (types_of c.args.program.now.names) c.args.at c.args.operand.ty c.get.result.now (seen_ty c.args.ty.now) (Gives (seen_ty c.in_ok-yes.yes)) c.get.ensures.value c.in_ok-yes.ensures.value) c.in_ok-outside.ensures.value
    (λ n. meet_at (types_of c.args.program.now.names) c.args.at c.args.operand.ty c.get-2.result.now (seen_ty c.in_ok-outside.outside) (Fails c.in_err-no.field-0.0) c.get-2.ensures.value (c.in_err-no.ensures.value n))) c.from_residual-in_err-no.ensures.1
