use Rattle.wy_mach.proofs.SharedRunLemmas.{runs_counted}
use Rattle.wy_mach.proofs.laws.runs_are_counted.Goals as goal

pub returns : goal.returns
returns c = record { law = runs_counted }
