use Rattle.wy_sound_types.proofs.TypedLemmas.{clauses_of_types_meet}
use Rattle.wy_sound_types.proofs.law.clauses_of_types_meet.Goals as goal

pub returns : goal.returns
returns c = record { meet = clauses_of_types_meet }
