use Rattle.std.proofs.Common.{sym}
use Rattle.wy_cong.proofs.congruence_closure.labels.label.Goals as goal
use Rattle.wy_lemmas.proofs.Lists.{number_lost}

pub returns-in-None : goal.returns-in-None
returns-in-None c = record { value = number_lost c.args.labels.now c.args.i (sym c.in-None.ensures) }
