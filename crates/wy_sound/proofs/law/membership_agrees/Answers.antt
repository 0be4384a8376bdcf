use Rattle.wy_sound.proofs.SoundLemmas.{membership_same}
use Rattle.wy_sound.proofs.law.membership_agrees.Goals as goal

pub returns : goal.returns
returns c = record { agree = membership_same }
