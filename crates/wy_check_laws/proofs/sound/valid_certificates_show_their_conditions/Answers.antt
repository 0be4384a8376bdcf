use Rattle.wy_check_laws.proofs.sound_lemmas.SoundLemmas.{valid_implies_true}
use Rattle.wy_check_laws.proofs.sound.valid_certificates_show_their_conditions.Goals as goal

pub returns : goal.returns
returns c = record { sound = valid_implies_true }
