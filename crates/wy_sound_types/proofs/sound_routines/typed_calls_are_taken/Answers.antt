use Rattle.wy_sound_types.proofs.sound_routines_lemmas.TakeLemmas.{calls_taken}
use Rattle.wy_sound_types.proofs.sound_routines.typed_calls_are_taken.Goals as goal

pub returns : goal.returns
returns c = record { taken = calls_taken }
