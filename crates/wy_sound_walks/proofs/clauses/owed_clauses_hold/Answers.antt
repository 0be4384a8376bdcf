use Rattle.wy_sound_walks.proofs.clauses_lemmas.LawsHold.{owed_are_true}
use Rattle.wy_sound_walks.proofs.clauses.owed_clauses_hold.Goals as goal

pub returns : goal.returns
returns c = record { hold = owed_are_true }
