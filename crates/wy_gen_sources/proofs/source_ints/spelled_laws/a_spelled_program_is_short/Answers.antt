use Rattle.wy_gen_sources.proofs.source_ints_lemmas.SpelledLemmas.{spelled_short}
use Rattle.wy_gen_sources.proofs.source_ints.spelled_laws.a_spelled_program_is_short.Goals as goal

pub returns : goal.returns
returns c = record { short = spelled_short }
