use Rattle.wy_sound.proofs.SoundLemmas.{programs_sound}
use Rattle.wy_sound.proofs.law.programs_are_sound.Goals as goal

pub returns : goal.returns
returns c = record { sound = programs_sound }
