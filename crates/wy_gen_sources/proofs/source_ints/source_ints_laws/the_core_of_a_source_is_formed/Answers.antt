use Rattle.wy_gen_sources.proofs.source_ints_lemmas.FormedInts.{source-formed}
use Rattle.wy_gen_sources.proofs.source_ints.source_ints_laws.the_core_of_a_source_is_formed.Goals as goal

pub returns : goal.returns
returns c = record { formed = source-formed }
