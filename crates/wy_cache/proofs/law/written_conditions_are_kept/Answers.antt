use Rattle.wy_cache.proofs.RekeptLemmas.{keeps_what_is_written}
use Rattle.wy_cache.proofs.law.written_conditions_are_kept.Goals as goal

pub returns : goal.returns
returns c = record { kept = keeps_what_is_written }
