use Rattle.wy_sound_types.proofs.members_lemmas.ToldLemmas.{are_told}
use Rattle.wy_sound_types.proofs.members.members_are_told.Goals as goal

pub returns : goal.returns
returns c = record { told = are_told }
