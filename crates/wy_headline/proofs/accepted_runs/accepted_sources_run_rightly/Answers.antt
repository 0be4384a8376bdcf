use Rattle.wy_headline.proofs.AcceptedLemmas.{sources_rightly}
use Rattle.wy_headline.proofs.accepted_runs.accepted_sources_run_rightly.Goals as goal

pub returns : goal.returns
returns c = record { rightly = sources_rightly }
