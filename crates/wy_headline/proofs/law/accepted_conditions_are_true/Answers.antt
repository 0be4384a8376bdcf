use Rattle.wy_headline.proofs.StartedLemmas.{accepted_hold}
use Rattle.wy_headline.proofs.law.accepted_conditions_are_true.Goals as goal

pub returns : goal.returns
returns c = record { hold = accepted_hold }
