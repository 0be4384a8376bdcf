use Rattle.std.proofs.Common.{sym}
use Rattle.wy_core.specs.CoreSeen.{seen_output}
use Rattle.wy_flow_spec.specs.environment.Seen.{seen_environment}
use Rattle.wy_types.specs.Names.{types_of}
use Rattle.wy_flow_spec.specs.typing.Programs as programs
use Rattle.wy_flow.proofs.WalkLemmas.{moved}
use Rattle.wy_flow.proofs.program.with_result.Goals as goal

pub returns-in-Some-clause-value : goal.returns-in-Some-clause-value
returns-in-Some-clause-value c =
    let N = types_of c.args.program.now.names in
    moved (λ o. programs.WithResult N (seen_environment c.args.env) (seen_output o)) _ _ _ _ (sym c.in-Some.is) c.with_named.ensures.value
