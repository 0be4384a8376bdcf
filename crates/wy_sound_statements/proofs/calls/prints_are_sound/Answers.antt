use Rattle.wy_sound_statements.proofs.calls_lemmas.PrintLemmas.{prints_sound}
use Rattle.wy_sound_statements.proofs.calls.prints_are_sound.Goals as goal

pub returns : goal.returns
returns c = record { sound = prints_sound }
