use Rattle.wy_gen_sources.proofs.sourced_code_lemmas.SourceLemmas.{spelled_as_asked}
use Rattle.wy_gen_sources.proofs.sourced_code.the_core_of_a_source_is_as_code_asks.Goals as goal

pub returns : goal.returns
returns c = record { asked = spelled_as_asked }
