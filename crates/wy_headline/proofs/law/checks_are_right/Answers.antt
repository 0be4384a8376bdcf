use Rattle.wy_headline.proofs.CheckLemmas.{checks_right}
use Rattle.wy_headline.proofs.law.checks_are_right.Goals as goal

pub returns : goal.returns
returns c = record { right = checks_right }
