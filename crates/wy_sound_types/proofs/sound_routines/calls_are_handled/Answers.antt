use Rattle.wy_sound_types.proofs.sound_routines_lemmas.DepthLemmas.{calls_handled}
use Rattle.wy_sound_types.proofs.sound_routines.calls_are_handled.Goals as goal

pub returns : goal.returns
returns c = record { handled = calls_handled }
