use Rattle.wy_sound.proofs.marks_lemmas.BodyLemmas.{bodies_ready}
use Rattle.wy_sound.proofs.marks.assigned_bodies_are_ready.Goals as goal

pub returns : goal.returns
returns c = record { ready = bodies_ready }
