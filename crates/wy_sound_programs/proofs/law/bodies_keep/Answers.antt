use Rattle.wy_sound_programs.proofs.BegunLemmas.{bodies_begun, bodies_keep}
use Rattle.wy_sound_programs.proofs.law.bodies_keep.Goals as goal

pub returns : goal.returns
returns c = record { begun = bodies_begun; keep = bodies_keep }
