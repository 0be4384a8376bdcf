use Rattle.wy_gen_sources.proofs.source_ints_lemmas.SpelledLemmas.{spelled_clauses}
use Rattle.wy_gen_sources.proofs.source_ints.spelled_laws.a_spelled_program_has_clauses.Goals as goal

pub returns : goal.returns
returns c = record { clauses = spelled_clauses }
