use Rattle.wy_sound_walks.proofs.clauses_lemmas.LawsHold.{owed_pass}
use Rattle.wy_sound_walks.proofs.clauses.owed_clauses_pass.Goals as goal

pub returns : goal.returns
returns c = record { pass = owed_pass }
