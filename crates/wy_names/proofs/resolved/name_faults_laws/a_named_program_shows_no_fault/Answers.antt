use Rattle.wy_names.proofs.resolved_lemmas.ProgramLemmas.{none_shown}
use Rattle.wy_names.proofs.resolved.name_faults_laws.a_named_program_shows_no_fault.Goals as goal

pub returns : goal.returns
returns c = record { none = none_shown }
