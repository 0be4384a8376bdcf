use Rattle.wy_sound_statements.proofs.calls_lemmas.CallLemmas.{calls_sound}
use Rattle.wy_sound_statements.proofs.calls.calls_are_sound.Goals as goal

pub returns : goal.returns
returns c = record { sound = calls_sound }
