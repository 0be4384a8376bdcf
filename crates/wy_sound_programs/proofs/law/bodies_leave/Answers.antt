use Rattle.wy_sound_programs.proofs.BodyLemmas.{bodies_right}
use Rattle.wy_sound_programs.proofs.law.bodies_leave.Goals as goal

pub returns : goal.returns
returns c = record { sound = bodies_right }
