use Rattle.wy_sound_programs.proofs.OnceLemmas.{routines_scoped}
use Rattle.wy_sound_programs.proofs.law.routines_are_scoped.Goals as goal

pub returns : goal.returns
returns c = record { scoped = routines_scoped }
