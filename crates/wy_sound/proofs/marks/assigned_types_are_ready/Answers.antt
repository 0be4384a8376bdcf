use Rattle.wy_sound.proofs.marks_lemmas.ClauseLemmas.{types_ready}
use Rattle.wy_sound.proofs.marks.assigned_types_are_ready.Goals as goal

pub returns : goal.returns
returns c = record { ready = types_ready }
