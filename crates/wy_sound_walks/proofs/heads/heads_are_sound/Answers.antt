use Rattle.wy_sound_walks.proofs.heads_lemmas.HeadLemmas.{heads_sound}
use Rattle.wy_sound_walks.proofs.heads.heads_are_sound.Goals as goal

pub returns : goal.returns
returns c = record { sound = heads_sound }
