use Rattle.wy_flow_spec.specs.environment.Seen.{seen_changes, seen_environment}
use Rattle.wy_types.specs.Names.{types_of}
use Rattle.wy_flow_exprs.proofs.FoundLemmas.{either_found}
use Rattle.wy_flow_exprs.proofs.narrowing.either.Goals as goal

pub returns-clause-value : goal.returns-clause-value
returns-clause-value c =
    either_found (types_of c.args.program.now.names) c.args.at (seen_environment c.args.env.now) (seen_changes c.args.over.now) (seen_changes c.args.first.now) (seen_changes c.args.second.now) c.in_ok-one.one c.as_slice.result.now c.in_ok-two.two c.as_slice-2.result.now c.new.result c.in_ok-variables.variables c.in_ok-all.all c.as_slice-3.result.now seen_changes c.either_all.result
    c.in_ok-one.ensures.value c.as_slice.ensures c.in_ok-two.ensures.value c.as_slice-2.ensures c.new.ensures c.in_ok-variables.ensures.value c.in_ok-all.ensures.value c.as_slice-3.ensures c.either_all.ensures.value
