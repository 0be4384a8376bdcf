use Rattle.wy_eval.proofs.VariableLemmas.{type_found}
use Rattle.wy_eval.proofs.variables.type_at.Goals as goal

pub returns : goal.returns
returns c = record { value = type_found c.at.result c.args.types.now c.args.variable c.at.ensures }
