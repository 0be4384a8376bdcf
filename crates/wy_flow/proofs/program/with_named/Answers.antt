use Rattle.std.proofs.Common.{sym}
use Rattle.wy_core.specs.CoreSeen.{place_of_ty, seen_ty}
use Rattle.wy_flow_spec.specs.environment.Seen.{seen_environment}
use Rattle.wy_types.specs.Names.{types_of}
use Rattle.wy_flow_spec.specs.typing.Programs as programs
use Rattle.wy_flow.proofs.WalkLemmas.{moved}
use Rattle.wy_flow.proofs.program.with_named.Goals as goal

pub returns-in-Some-clause-value : goal.returns-in-Some-clause-value
returns-in-Some-clause-value c =
    let N = types_of c.args.program.now.names in
    moved (λ v. programs.WithNamed N (place_of_ty c.args.ty.now) (seen_ty c.args.ty.now) (seen_environment c.args.env) v) _ _ _ _ (sym c.in-Some.is) c.with_variable.ensures.value
