use Rattle.std.proofs.Common.{ap}
use Rattle.wy_flow.specs.States.{seen_state}
use Rattle.wy_flow_exprs.specs.Seen.{seen_all, seen_flow, seen_program, seen_types}
use Rattle.wy_flow_spec.specs.typing.Calls as calls
use Rattle.wy_flow_spec.specs.typing.Outcomes.{Gives, gave}
use Rattle.wy_flow_exprs.proofs.checks_lemmas.StepLemmas.{next, first_refused}
use Rattle.wy_flow.proofs.WalkLemmas.{shifted}
use Rattle.wy_flow.proofs.statements.called.Goals as goal

pub returns-in_err-types-clause-value : goal.returns-in_err-types-clause-value
returns-in_err-types-clause-value c =
    first_refused _ _ _ _ _ c.in_err-types.ensures.value c.from_residual.ensures.1

pub returns-in_err-check_args-clause-value : goal.returns-in_err-check_args-clause-value
returns-in_err-check_args-clause-value c =
    let P = seen_program c.args.program.now in
    let A = seen_all (seen_flow c.typed_all.new.walk) c.in_ok-types.types in
    next _ _ _ A _ c.in_ok-types.ensures.value
    (first_refused _ _ _ _ _ (λ n. (shifted (λ t. calls.FitCall P c.args.at c.args.routine (seen_types t)) _ _ _ c.as_slice.ensures (c.in_err-check_args.ensures.value n))) c.from_residual-in_err-check_args.ensures.1)

pub returns-clause-value : goal.returns-clause-value
returns-clause-value c =
    let P = seen_program c.args.program.now in
    let A = seen_all (seen_flow c.typed_all.new.walk) c.in_ok-types.types in
    gave A _ c.in_ok-types.ensures.value (gave tt _ (shifted (λ t. calls.FitCall P c.args.at c.args.routine (seen_types t)) _ _ _ c.as_slice.ensures c.in_ok-check_args.ensures.value) (ap (λ f. Gives (seen_state f c.args.state)) c.in_ok-check_args.ensures.flow))
