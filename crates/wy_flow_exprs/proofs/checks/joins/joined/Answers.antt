use Rattle.std.proofs.Common.{◌≡◌, true, rules}
use Rattle.wy_flow_spec.specs.environment.Seen.{seen_environment}
use Rattle.wy_types.specs.Names.{types_of}
use Rattle.wy_flow_spec.specs.typing.Joins.{Joined}
use Rattle.wy_flow_exprs.proofs.checks_lemmas.JoinLemmas.{joined_given, joined_refused}
use Rattle.wy_flow_exprs.proofs.checks_lemmas.StepLemmas.{refused_on}
use Rattle.wy_flow_exprs.proofs.checks.joins.joined.Goals as goal

pub returns-in_err-types-clause-value : goal.returns-in_err-types-clause-value
returns-in_err-types-clause-value c =
    let first : c.args.first.reached ≡ true = search rules in
    let second : c.args.second.reached ≡ true = search rules in
    refused_on (Joined (types_of c.args.names.now) c.args.at (seen_environment c.args.first) (seen_environment c.args.second)) seen_environment c.in_err-types.field-0.0 c.from_residual.result
    (joined_refused (types_of c.args.names.now) c.args.at c.args.first.reached c.args.second.reached c.args.first.types c.args.second.types c.as_slice.result.now c.as_slice-2.result.now c.in_err-types.field-0.0 first second c.as_slice.ensures c.as_slice-2.ensures c.in_err-types.ensures.value)
    c.from_residual.ensures.1

pub returns-clause-value : goal.returns-clause-value
returns-clause-value c =
    let first : c.args.first.reached ≡ true = search rules in
    let second : c.args.second.reached ≡ true = search rules in
    joined_given (types_of c.args.names.now) c.args.at c.args.first.reached c.args.second.reached c.args.first.types c.args.second.types c.as_slice.result.now c.as_slice-2.result.now c.in_ok-types.types first second c.as_slice.ensures c.as_slice-2.ensures c.in_ok-types.ensures.value
