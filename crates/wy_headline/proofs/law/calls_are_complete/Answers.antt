use Rattle.wy_headline.proofs.CompleteLemmas.{calls_complete}
use Rattle.wy_headline.proofs.law.calls_are_complete.Goals as goal

pub returns : goal.returns
returns c = record { complete = calls_complete }
