use Rattle.wy_sem.proofs.ProgramsHold.{programs_do}
use Rattle.wy_sem.proofs.laws.small_programs_do_so.Goals as goal

pub returns : goal.returns
returns c = record { value = programs_do }
