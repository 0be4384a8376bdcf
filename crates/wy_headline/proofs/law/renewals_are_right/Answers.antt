use Rattle.wy_headline.proofs.AgainLemmas.{renewals_right}
use Rattle.wy_headline.proofs.law.renewals_are_right.Goals as goal

pub returns : goal.returns
returns c = record { right = renewals_right }
