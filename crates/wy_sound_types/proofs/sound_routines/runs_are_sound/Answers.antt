use Rattle.wy_sound_types.proofs.sound_routines_lemmas.RunLemmas.{runs_sound}
use Rattle.wy_sound_types.proofs.sound_routines.runs_are_sound.Goals as goal

pub returns : goal.returns
returns c = record { sound = runs_sound }
