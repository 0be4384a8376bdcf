use Rattle.wy_gen_laws.proofs.programs_lemmas.ProgramLemmas.{programs_simulated}
use Rattle.wy_gen_laws.proofs.programs.programs_are_simulated.Goals as goal

pub returns : goal.returns
returns c = record { simulated = programs_simulated }
