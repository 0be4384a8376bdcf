use Rattle.std.proofs.Common.{ap}
use Rattle.wy_core.specs.CoreSeen.{seen_ty}
use Rattle.wy_flow_spec.specs.typing.Calls.{CallOf}
use Rattle.wy_flow_exprs.proofs.checks_lemmas.StepLemmas.{refused_on}
use Rattle.wy_flow_exprs.specs.Seen.{seen_all, seen_flow, seen_found, seen_program, seen_types}
use Rattle.wy_flow_exprs.proofs.FoundLemmas.{call_found, call_refused, call_not_given}
use Rattle.wy_flow_exprs.proofs.calls.call.Goals as goal

pub returns-clause-value : goal.returns-clause-value
returns-clause-value c =
    call_found (seen_program c.args.program.now) c.args.at c.args.routine (seen_types c.args.args) (seen_types c.as_slice.result.now) (seen_flow c.args.walk.now) (seen_flow c.check_args.new.walk) (seen_flow c.result_type.new.walk) (seen_found (seen_flow c.of_type.new.walk)) c.of_type.result (seen_ty c.in_ok-ty.ty) (ap seen_types c.as_slice.ensures) c.in_ok-check_args.ensures.value c.in_ok-ty.ensures.value c.in_ok-check_args.ensures.flow c.in_ok-ty.ensures.flow c.of_type.ensures.value

pub returns-in_err-check_args-clause-value : goal.returns-in_err-check_args-clause-value
returns-in_err-check_args-clause-value c =
    refused_on (CallOf (seen_program c.args.program.now) c.args.at c.args.routine (seen_all (seen_flow c.args.walk.now) c.args.args)) (seen_found (seen_flow c.check_args.new.walk)) c.in_err-check_args.field-0.0 c.from_residual.result (call_refused (seen_program c.args.program.now) c.args.at c.args.routine (seen_types c.args.args) (seen_types c.as_slice.result.now) (seen_flow c.args.walk.now) c.in_err-check_args.field-0.0 (ap seen_types c.as_slice.ensures) c.in_err-check_args.ensures.value) c.from_residual.ensures.1

pub returns-in_err-ty-clause-value : goal.returns-in_err-ty-clause-value
returns-in_err-ty-clause-value c =
    refused_on (CallOf (seen_program c.args.program.now) c.args.at c.args.routine (seen_all (seen_flow c.args.walk.now) c.args.args)) (seen_found (seen_flow c.result_type.new.walk)) c.in_err-ty.field-0.0 c.from_residual-in_err-ty.result (call_not_given (seen_program c.args.program.now) c.args.at c.args.routine (seen_types c.args.args) (seen_types c.as_slice.result.now) (seen_flow c.args.walk.now) c.in_err-ty.field-0.0 (ap seen_types c.as_slice.ensures) c.in_ok-check_args.ensures.value c.in_err-ty.ensures.value) c.from_residual-in_err-ty.ensures.1
