use Rattle.wy_names.proofs.resolved_lemmas.ProgramLemmas.{first_shown}
use Rattle.wy_names.proofs.resolved.name_faults_laws.a_program_is_refused_for_its_first_fault.Goals as goal

pub returns : goal.returns
returns c = record { first = first_shown }
