use Rattle.wy_sem.proofs.kept_lemmas.KeptLemmas.{values_kept}
use Rattle.wy_sem.proofs.kept.expressions_give_values.Goals as goal

pub returns : goal.returns
returns c = record { kept = values_kept }
