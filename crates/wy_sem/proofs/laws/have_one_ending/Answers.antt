use Rattle.wy_sem.proofs.Growth.{is_unique}
use Rattle.wy_sem.proofs.laws.have_one_ending.Goals as goal

pub returns : goal.returns
returns c = record { value = λ place core f args. is_unique place core f args }
