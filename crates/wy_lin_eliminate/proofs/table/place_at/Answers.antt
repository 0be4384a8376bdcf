use Rattle.std.proofs.Common.{sym}
use Rattle.wy_lin_eliminate.proofs.table.place_at.Goals as goal
use Rattle.wy_lemmas.proofs.Lists.{number_lost}

pub returns-in-None : goal.returns-in-None
returns-in-None c = record { value = number_lost c.args.standing.now c.args.k (sym c.in-None.ensures) }
