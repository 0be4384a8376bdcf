use Rattle.wy_headline.proofs.KeptLemmas.{sources_keep}
use Rattle.wy_headline.proofs.accepted_runs.sources_keep_nothing_dead.Goals as goal

pub returns : goal.returns
returns c = record { keep = sources_keep }
