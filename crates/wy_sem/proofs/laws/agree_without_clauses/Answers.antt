use Rattle.wy_sem.proofs.Agreement.{readings_agree}
use Rattle.wy_sem.proofs.laws.agree_without_clauses.Goals as goal

pub returns : goal.returns
returns c = record { value = λ place core. readings_agree place core }
