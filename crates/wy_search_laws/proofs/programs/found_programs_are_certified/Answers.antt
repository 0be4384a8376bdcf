use Rattle.wy_search_laws.proofs.programs_lemmas.ProgramLemmas.{conditions_certified, programs_certified}
use Rattle.wy_search_laws.proofs.programs.found_programs_are_certified.Goals as goal

pub returns : goal.returns
returns c = record { conditions = conditions_certified; programs = programs_certified }
