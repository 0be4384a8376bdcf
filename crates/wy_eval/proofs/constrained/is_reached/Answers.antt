use Rattle.wy_eval.proofs.MarkLemmas.{clauses_there}
use Rattle.wy_eval.proofs.constrained.is_reached.Goals as goal

pub returns-then-not-is_empty : goal.returns-then-not-is_empty
returns-then-not-is_empty c = record { value = clauses_there c.args.marks.now c.args.alias.now c.is_empty.result c.is_empty.ensures c.if-not-is_empty.true }
