use Rattle.wy_check.proofs.ShownLemmas.{supplied_is_certified}
use Rattle.wy_check.proofs.law.supplied_conditions_are_certified.Goals as goal

pub returns : goal.returns
returns c = record { exactly = supplied_is_certified }
