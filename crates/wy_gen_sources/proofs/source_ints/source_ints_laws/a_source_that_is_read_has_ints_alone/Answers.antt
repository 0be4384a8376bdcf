use Rattle.wy_gen_sources.proofs.source_ints_lemmas.ProgramLeaves.{read-ints}
use Rattle.wy_gen_sources.proofs.source_ints.source_ints_laws.a_source_that_is_read_has_ints_alone.Goals as goal

pub returns : goal.returns
returns c = record { ints = read-ints }
