use Rattle.wy_headline.proofs.SourceLemmas.{source_shown}
use Rattle.wy_headline.proofs.accepted_runs.sources_are_shown.Goals as goal

pub returns : goal.returns
returns c = record { shown = source_shown }
