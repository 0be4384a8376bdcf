use Rattle.wy_sound_programs.proofs.EntryLemmas.{entries_mark, bodies_inside}
use Rattle.wy_sound_programs.proofs.BeginLemmas.{bodies_begin}
use Rattle.wy_sound_programs.proofs.law.bodies_begin_and_end.Goals as goal

pub returns : goal.returns
returns c = record { begin = entries_mark; entry = bodies_begin; inside = bodies_inside }
