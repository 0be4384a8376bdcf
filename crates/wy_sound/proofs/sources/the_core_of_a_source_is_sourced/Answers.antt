use Rattle.wy_sound.proofs.sources_lemmas.SourceLemmas.{spelled_sourced}
use Rattle.wy_sound.proofs.sources.the_core_of_a_source_is_sourced.Goals as goal

pub returns : goal.returns
returns c = record { sourced = spelled_sourced }
