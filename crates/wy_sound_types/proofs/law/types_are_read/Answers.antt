use Rattle.wy_sound_types.proofs.RestLemmas.{are_read}
use Rattle.wy_sound_types.proofs.law.types_are_read.Goals as goal

pub returns : goal.returns
returns c = record { read = are_read }
