use Rattle.wy_core.proofs.formed_lemmas.MoveLemmas.{moved_expr}
use Rattle.wy_core.proofs.formed.more_variables_may_be_in_scope.Goals as goal

pub returns : goal.returns
returns c = record { bound = λ o n m vs ws e h b. moved_expr o h e b }
