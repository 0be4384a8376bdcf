use Rattle.wy_headline.proofs.ProbeLemmas.{probes_right}
use Rattle.wy_headline.proofs.law.probes_are_right.Goals as goal

pub returns : goal.returns
returns c = record { right = probes_right }
