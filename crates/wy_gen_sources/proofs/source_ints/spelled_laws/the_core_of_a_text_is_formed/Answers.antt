use Rattle.wy_gen_sources.proofs.source_ints_lemmas.SpelledLemmas.{text_formed}
use Rattle.wy_gen_sources.proofs.source_ints.spelled_laws.the_core_of_a_text_is_formed.Goals as goal

pub returns : goal.returns
returns c = record { formed = text_formed }
