use Rattle.wy_cong.proofs.SoundLemmas.{classes_sound}
use Rattle.wy_cong.proofs.law.classes_are_sound.Goals as goal

pub returns : goal.returns
returns c = classes_sound
