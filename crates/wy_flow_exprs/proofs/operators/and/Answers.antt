use Rattle.std.proofs.Common.{◌∙◌}
use Rattle.wy_flow_spec.specs.environment.Seen.{seen_changes, seen_environment}
use Rattle.wy_types.specs.Names.{types_of}
use Rattle.wy_flow_spec.specs.typing.Operators.{And}
use Rattle.wy_flow_spec.specs.typing.Outcomes.{Gives, Fails}
use Rattle.wy_flow_exprs.proofs.checks_lemmas.StepLemmas.{refused_on}
use Rattle.wy_flow_exprs.specs.Seen.{seen_flow, seen_found}
use Rattle.wy_flow_exprs.proofs.FoundLemmas.{behind_is, either_at, and_found, and_refused, and_stopped}
use Rattle.wy_flow_exprs.proofs.operators.and.Goals as goal

pub returns-clause-value : goal.returns-clause-value
returns-clause-value c =
    and_found (types_of c.args.program.now.names) c.args.at (seen_environment c.args.env.now) (seen_changes c.args.over.now) (seen_found (seen_flow c.args.walk.now) c.args.left) (seen_found (seen_flow c.args.walk.now) c.args.right) (seen_found (seen_flow c.truth.new.walk)) c.truth.result (seen_changes c.in_ok-late.late) (seen_changes c.in_ok-yes.yes) (seen_changes c.in_ok-no.no) (seen_flow c.either.new.walk) c.in_ok-are_bools.ensures.value
    (behind_is (seen_changes c.in_ok-late.late) c.args.left.yes c.as_slice.result.now c.args.right.no c.as_slice-2.result.now c.in_ok-late.ensures.value c.as_slice.ensures c.as_slice-2.ensures)
    (either_at (types_of c.args.program.now.names) c.args.at (seen_environment c.args.env.now) (seen_changes c.args.over.now) c.args.left.no c.as_slice-3.result.now c.in_ok-late.late c.as_slice-4.result.now (Gives (seen_changes c.in_ok-no.no)) c.as_slice-3.ensures c.as_slice-4.ensures c.in_ok-no.ensures.value)
    (behind_is (seen_changes c.in_ok-yes.yes) c.args.left.yes c.as_slice-5.result.now c.args.right.yes c.as_slice-6.result.now c.in_ok-yes.ensures.value c.as_slice-5.ensures c.as_slice-6.ensures)
    (c.in_ok-no.ensures.flow ∙ c.in_ok-are_bools.ensures.flow) c.truth.ensures.value

pub returns-in_err-are_bools-clause-value : goal.returns-in_err-are_bools-clause-value
returns-in_err-are_bools-clause-value c =
    refused_on (And (types_of c.args.program.now.names) c.args.at (seen_environment c.args.env.now) (seen_changes c.args.over.now) (seen_found (seen_flow c.args.walk.now) c.args.left) (seen_found (seen_flow c.args.walk.now) c.args.right)) (seen_found (seen_flow c.are_bools.new.walk)) c.in_err-are_bools.field-0.0 c.from_residual.result
    (and_stopped (types_of c.args.program.now.names) c.args.at (seen_environment c.args.env.now) (seen_changes c.args.over.now) (seen_found (seen_flow c.args.walk.now) c.args.left) (seen_found (seen_flow c.args.walk.now) c.args.right) c.in_err-are_bools.field-0.0 c.in_err-are_bools.ensures.value) c.from_residual.ensures.1

pub returns-in_err-no-clause-value : goal.returns-in_err-no-clause-value
returns-in_err-no-clause-value c =
    refused_on (And (types_of c.args.program.now.names) c.args.at (seen_environment c.args.env.now) (seen_changes c.args.over.now) (seen_found (seen_flow c.args.walk.now) c.args.left) (seen_found (seen_flow c.args.walk.now) c.args.right)) (seen_found (seen_flow c.either.new.walk)) c.in_err-no.field-0.0 c.from_residual-in_err-no.result
    (and_refused (types_of c.args.program.now.names) c.args.at (seen_environment c.args.env.now) (seen_changes c.args.over.now) (seen_found (seen_flow c.args.walk.now) c.args.left) (seen_found (seen_flow c.args.walk.now) c.args.right) (seen_changes c.in_ok-late.late) c.in_err-no.field-0.0 c.in_ok-are_bools.ensures.value
    (behind_is (seen_changes c.in_ok-late.late) c.args.left.yes c.as_slice.result.now c.args.right.no c.as_slice-2.result.now c.in_ok-late.ensures.value c.as_slice.ensures c.as_slice-2.ensures)
    (λ n. either_at (types_of c.args.program.now.names) c.args.at (seen_environment c.args.env.now) (seen_changes c.args.over.now) c.args.left.no c.as_slice-3.result.now c.in_ok-late.late c.as_slice-4.result.now (Fails c.in_err-no.field-0.0) c.as_slice-3.ensures c.as_slice-4.ensures (c.in_err-no.ensures.value n)))
    c.from_residual-in_err-no.ensures.1
