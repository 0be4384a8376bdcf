use Rattle.wy_sem.proofs.MeetsAnswers.{met_is_exact}
use Rattle.wy_sem.proofs.laws.meet_exactly.Goals as goal

pub returns : goal.returns
returns c = record { value = λ place core f args. met_is_exact place core f args }
