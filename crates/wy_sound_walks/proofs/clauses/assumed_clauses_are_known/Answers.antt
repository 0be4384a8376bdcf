use Rattle.wy_sound_walks.proofs.clauses_lemmas.LawsHold.{assumed_are_known}
use Rattle.wy_sound_walks.proofs.clauses.assumed_clauses_are_known.Goals as goal

pub returns : goal.returns
returns c = record { known = assumed_are_known }
