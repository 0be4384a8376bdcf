use Rattle.wy_sound_types.proofs.sound_routines_lemmas.ParamLemmas.{parameters_in}
use Rattle.wy_sound_types.proofs.sound_routines.parameters_are_in.Goals as goal

pub returns : goal.returns
returns c = record { inside = parameters_in }
