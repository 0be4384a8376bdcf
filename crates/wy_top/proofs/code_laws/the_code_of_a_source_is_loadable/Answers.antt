use Rattle.wy_top.proofs.CodeLemmas.{source_loadable}
use Rattle.wy_top.proofs.code_laws.the_code_of_a_source_is_loadable.Goals as goal

pub returns : goal.returns
returns c = record { loadable = source_loadable }
