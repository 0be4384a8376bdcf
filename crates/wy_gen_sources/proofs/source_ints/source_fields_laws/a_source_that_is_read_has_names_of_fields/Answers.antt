use Rattle.wy_gen_sources.proofs.source_ints_lemmas.ProgramLeaves.{read-fields}
use Rattle.wy_gen_sources.proofs.source_ints.source_fields_laws.a_source_that_is_read_has_names_of_fields.Goals as goal

pub returns : goal.returns
returns c = record { fields = read-fields }
