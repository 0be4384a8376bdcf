use Rattle.wy_sound_walks.proofs.joins_lemmas.JoinLemmas.{joins_sound}
use Rattle.wy_sound_walks.proofs.joins.joins_are_sound.Goals as goal

pub returns : goal.returns
returns c = record { sound = joins_sound }
