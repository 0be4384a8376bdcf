use Rattle.wy_headline.proofs.AcceptedLemmas.{shown_rightly}
use Rattle.wy_headline.proofs.accepted_runs.shown_programs_run_rightly.Goals as goal

pub returns : goal.returns
returns c = record { rightly = shown_rightly }
