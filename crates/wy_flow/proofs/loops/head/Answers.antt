use Rattle.std.proofs.Common.{sym, ap, ◌∙◌}
use Rattle.wy_flow_spec.specs.environment.Seen.{seen_environment, seen_slots}
use Rattle.wy_flow.specs.States.{seen_state}
use Rattle.wy_flow_exprs.specs.Seen.{seen_flow}
use Rattle.wy_types.specs.Names.{types_of}
use Rattle.wy_flow_spec.specs.typing.Loops as loops
use Rattle.wy_flow.proofs.WalkLemmas.{moved, head_meets}
use Rattle.wy_flow.proofs.loops.head.Goals as goal

pub returns-then-env-clause-value : goal.returns-then-env-clause-value
returns-then-env-clause-value c =
    let N = types_of c.args.program.now.names in
    head_meets N c.args.at (seen_state (seen_flow c.args.walk.now) c.args.state.now) c.args.variables.now _ _ (ap (λ e. e.reached) (sym c.in_ok-env.ensures.value) ∙ c.if-env.true)
    (moved (λ e. loops.RenewedAll N c.args.at (seen_slots c.args.state.now.declared) c.args.variables.now (seen_environment e)) _ _ _ _ c.in_ok-env.ensures.value c.renewed_all.ensures.value)
