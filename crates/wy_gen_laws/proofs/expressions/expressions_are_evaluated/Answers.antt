use Rattle.wy_gen_laws.proofs.expressions_lemmas.ExpressionLemmas.{expressions_evaluated}
use Rattle.wy_gen_laws.proofs.expressions.expressions_are_evaluated.Goals as goal

pub returns : goal.returns
returns c = record { evaluated = expressions_evaluated }
