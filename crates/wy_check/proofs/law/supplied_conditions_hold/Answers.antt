use Rattle.wy_check.proofs.ShownLemmas.{supplied_is_true}
use Rattle.wy_check.proofs.law.supplied_conditions_hold.Goals as goal

pub returns : goal.returns
returns c = record { sound = supplied_is_true }
