use Rattle.wy_code_spec.proofs.ints_lemmas.LoadableLemmas.{loadable}
use Rattle.wy_code_spec.proofs.ints.laws.the_code_of_a_program_is_loadable.Goals as goal

pub returns : goal.returns
returns c = record { loadable = loadable }
