use Rattle.std.proofs.Common.{ap}
use Rattle.wy_flow_spec.specs.environment.Seen.{seen_environment, seen_slots}
use Rattle.wy_flow.specs.States.{seen_environments}
use Rattle.wy_types.specs.Names.{types_of}
use Rattle.wy_flow_spec.specs.typing.Loops as loops
use Rattle.wy_flow_spec.specs.typing.Outcomes.{Gives, gave}
use Rattle.wy_flow_exprs.proofs.checks_lemmas.StepLemmas.{first_refused}
use Rattle.wy_flow.proofs.WalkLemmas as walks
use Rattle.wy_flow.proofs.WalkLemmas.{moved, shifted, onto, normal_meets, normal_given, head_meets, end_if_by, end_loop_by, begun, begun_is, types_pushed}
use Rattle.wy_flow.proofs.loops.end_loop.Goals as goal

pub returns-in_err-env-clause-value : goal.returns-in_err-env-clause-value
returns-in_err-env-clause-value c =
    let N = types_of c.args.program.now.names in
    first_refused _ _ _ _ _ (λ n. (shifted (λ b. loops.Exit N c.args.at (seen_environments b) (seen_environment c.args.outside)) _ _ _ c.as_slice.ensures (c.in_err-env.ensures.value n))) c.from_residual.ensures.1

pub returns-clause-value : goal.returns-clause-value
returns-clause-value c =
    let N = types_of c.args.program.now.names in
    gave (seen_environment c.in_ok-env.env) _ (shifted (λ b. loops.Exit N c.args.at (seen_environments b) (seen_environment c.args.outside)) _ _ _ c.as_slice.ensures c.in_ok-env.ensures.value)
    (ap (λ f. Gives (walks.state (seen_environment c.in_ok-env.env) (seen_slots c.args.turn.declared) (seen_environments c.args.around) f)) c.in_ok-env.ensures.flow)
