use Rattle.wy_headline.proofs.HeadlineLemmas.{runs_right}
use Rattle.wy_headline.proofs.law.runs_are_right.Goals as goal

pub returns : goal.returns
returns c = record { right = runs_right }
