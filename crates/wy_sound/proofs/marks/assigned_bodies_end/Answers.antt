use Rattle.wy_sound.proofs.marks_lemmas.BodyLemmas.{bodies_end}
use Rattle.wy_sound.proofs.marks.assigned_bodies_end.Goals as goal

pub returns : goal.returns
returns c = record { ends = bodies_end }
