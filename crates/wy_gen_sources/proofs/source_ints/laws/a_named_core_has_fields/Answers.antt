use Rattle.wy_gen_sources.proofs.source_ints_lemmas.FieldNameLemmas.{named_fields}
use Rattle.wy_gen_sources.proofs.source_ints.laws.a_named_core_has_fields.Goals as goal

pub returns : goal.returns
returns c = record { fields = named_fields }
