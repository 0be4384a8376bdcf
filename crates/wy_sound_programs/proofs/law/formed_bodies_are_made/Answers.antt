use Rattle.wy_sound_programs.proofs.FormedLemmas.{formed_made}
use Rattle.wy_sound_programs.proofs.law.formed_bodies_are_made.Goals as goal

pub returns : goal.returns
returns c = record { made = formed_made }
