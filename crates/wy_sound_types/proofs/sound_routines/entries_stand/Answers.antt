use Rattle.wy_sound_types.proofs.sound_routines_lemmas.EntryLemmas.{entries_stand}
use Rattle.wy_sound_types.proofs.sound_routines.entries_stand.Goals as goal

pub returns : goal.returns
returns c = record { stand = entries_stand }
