use Rattle.std.proofs.Common.{◌∙◌, ap, arith}
use Rattle.wy_prove.specs.Turns.{is_refutation}
use Rattle.wy_prove.proofs.turning.is_refuted.Goals as goal

pub ending_of_elimination-requires-clause-known : goal.ending_of_elimination-requires-clause-known
ending_of_elimination-requires-clause-known c = c.no_forms-known.ensures c.args.terms.now (omega arith)

pub returns-clause-value : goal.returns-clause-value
returns-clause-value c = c.refutes.ensures ∙ ap is_refutation c.in_ok-end.ensures.value
