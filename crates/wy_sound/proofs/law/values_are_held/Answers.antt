use Rattle.wy_sound.proofs.AcceptedLemmas.{values_held}
use Rattle.wy_sound.proofs.law.values_are_held.Goals as goal

pub returns : goal.returns
returns c = record { held = values_held }
