use Rattle.wy_core.specs.CoreSeen.{seen_ty}
use Rattle.wy_flow_spec.specs.environment.Seen.{seen_changes, seen_environment}
use Rattle.wy_flow_spec.specs.environment.Variables.{type_of}
use Rattle.wy_types.specs.Names.{types_of}
use Rattle.wy_flow_exprs.proofs.FoundLemmas.{joined_at}
use Rattle.wy_flow_exprs.proofs.narrowing.either_type.Goals as goal

pub returns-clause-value : goal.returns-clause-value
returns-clause-value c =
    joined_at (types_of c.args.program.now.names) c.args.at (seen_ty c.in_ok-a.a) (type_of (seen_environment c.args.env.now) (seen_changes c.args.first.now) c.args.variable) (seen_ty c.in_ok-b.b) (type_of (seen_environment c.args.env.now) (seen_changes c.args.second.now) c.args.variable) seen_ty c.joined_type.result c.in_ok-a.ensures.value c.in_ok-b.ensures.value c.joined_type.ensures.value
