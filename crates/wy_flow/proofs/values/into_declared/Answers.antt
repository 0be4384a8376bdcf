use Rattle.std.proofs.Common.{sym}
use Rattle.wy_core.specs.CoreSeen.{seen_ty}
use Rattle.wy_flow_spec.specs.environment.Seen.{seen_environment, seen_slot}
use Rattle.wy_types.specs.Names.{types_of}
use Rattle.wy_flow_spec.specs.typing.States as states
use Rattle.wy_flow_spec.specs.typing.Statements as spec
use Rattle.wy_flow.proofs.WalkLemmas.{moved}
use Rattle.wy_flow.proofs.values.into_declared.Goals as goal

pub returns-in-Some-clause-value : goal.returns-in-Some-clause-value
returns-in-Some-clause-value c =
    let N = types_of c.args.program.now.names in
    let E = seen_environment c.args.env.now in
    moved (λ d. spec.IntoDeclared N c.args.at c.args.variable (seen_ty c.args.value.now) E (seen_slot d)) _ _ _ _ (sym c.in-Some.is)
    (moved (λ d. states.ComesInto N c.args.at c.args.variable (seen_ty c.args.value.now) (seen_ty d) E) _ _ _ _ c.get.ensures.value c.comes_into.ensures.value)
