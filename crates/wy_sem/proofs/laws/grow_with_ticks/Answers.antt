use Rattle.wy_sem.proofs.Growth.{grows}
use Rattle.wy_sem.proofs.laws.grow_with_ticks.Goals as goal

pub returns : goal.returns
returns c = record { value = λ place core f args. grows place core f args }
