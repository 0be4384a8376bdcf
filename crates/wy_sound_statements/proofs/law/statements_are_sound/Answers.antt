use Rattle.wy_sound_statements.proofs.StatementLemmas.{blocks_sound}
use Rattle.wy_sound_statements.proofs.law.statements_are_sound.Goals as goal

pub returns : goal.returns
returns c = record { sound = blocks_sound }
