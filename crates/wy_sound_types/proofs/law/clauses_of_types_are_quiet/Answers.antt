use Rattle.wy_sound_types.proofs.QuietLemmas.{clauses_of_types_quiet}
use Rattle.wy_sound_types.proofs.law.clauses_of_types_are_quiet.Goals as goal

pub returns : goal.returns
returns c = record { quiet = clauses_of_types_quiet }
