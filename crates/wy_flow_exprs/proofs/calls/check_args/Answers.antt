use Rattle.wy_types.specs.Names.{types_of}
use Rattle.wy_flow_exprs.specs.Seen.{seen_types}
use Rattle.wy_flow_exprs.proofs.FoundLemmas.{fit_at, fit_none}
use Rattle.wy_flow_exprs.proofs.calls.check_args.Goals as goal

pub returns-in-None-clause-value : goal.returns-in-None-clause-value
returns-in-None-clause-value c =
    fit_none (types_of c.args.program.now.names) c.args.at (seen_types c.args.args.now) c.args.program.now.signatures c.args.routine c.in-None.ensures.value

pub returns-in-Some-clause-value : goal.returns-in-Some-clause-value
returns-in-Some-clause-value c =
    fit_at (types_of c.args.program.now.names) c.args.at (seen_types c.args.args.now) c.args.program.now.signatures c.args.routine c.in-Some.signature.now c.as_slice.result.now (λ (u : Unit {0}). u) c.fit.result c.in-Some.ensures.value c.as_slice.ensures c.fit.ensures.value
