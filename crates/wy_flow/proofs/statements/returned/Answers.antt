use Rattle.std.proofs.Common.{sym, ap}
use Rattle.wy_core.specs.CoreSeen.{seen_option}
use Rattle.wy_flow.specs.States.{seen_state}
use Rattle.wy_flow_exprs.specs.Seen.{seen_flow, seen_program, seen_result}
use Rattle.wy_flow_spec.specs.typing.Outcomes.{Gives}
use Rattle.wy_flow_spec.specs.typing.States as states
use Rattle.wy_flow_spec.specs.typing.Statements as spec
use Rattle.wy_flow.proofs.WalkLemmas.{moved, shifted}
use Rattle.wy_flow.proofs.statements.returned.Goals as goal

pub returns-in-None-clause-value : goal.returns-in-None-clause-value
returns-in-None-clause-value c =
    let P = seen_program c.args.program.now in
    let S = seen_state (seen_flow c.args.walk.now) c.args.state in
    let D = seen_result c.args.output.now in
    shifted (λ v. spec.ReturnTyped P c.args.at D S (seen_option v)) _ _ _ (sym c.in-None.is) (ap (λ s. Gives (states.with_flow (seen_flow c.args.walk.now) s)) c.left.ensures.value)

pub returns-in-Some-clause-value : goal.returns-in-Some-clause-value
returns-in-Some-clause-value c =
    let P = seen_program c.args.program.now in
    let S = seen_state (seen_flow c.args.walk.now) c.args.state in
    let D = seen_result c.args.output.now in
    moved (λ v. spec.ReturnTyped P c.args.at D S (seen_option v)) _ _ _ _ (sym c.in-Some.is) c.returned_value.ensures.value
