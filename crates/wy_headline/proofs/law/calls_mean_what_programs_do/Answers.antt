use Rattle.wy_headline.proofs.MeansLemmas.{calls_mean}
use Rattle.wy_headline.proofs.law.calls_mean_what_programs_do.Goals as goal

pub returns : goal.returns
returns c = record { mean = calls_mean }
