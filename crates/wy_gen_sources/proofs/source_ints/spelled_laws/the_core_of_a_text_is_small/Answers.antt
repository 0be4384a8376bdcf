use Rattle.wy_gen_sources.proofs.source_ints_lemmas.SpelledLemmas.{text_small, text_quiet}
use Rattle.wy_gen_sources.proofs.source_ints.spelled_laws.the_core_of_a_text_is_small.Goals as goal

pub returns : goal.returns
returns c = record { small = text_small; quiet = text_quiet }
