use Rattle.wy_sem.proofs.Limits.{limit_is_exact}
use Rattle.wy_sem.proofs.laws.spend_a_limit_exactly.Goals as goal

pub returns : goal.returns
returns c = record { value = λ place core f args limit. limit_is_exact place core f args limit }
