use Rattle.wy_headline.proofs.LargeLemmas.{large_right}
use Rattle.wy_headline.proofs.law.big_runs_are_right.Goals as goal

pub returns : goal.returns
returns c = record { right = large_right }
