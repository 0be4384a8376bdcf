use Rattle.wy_sound_walks.proofs.clauses_lemmas.LawsHold.{walked_are_safe}
use Rattle.wy_sound_walks.proofs.clauses.walked_clauses_are_safe.Goals as goal

pub returns : goal.returns
returns c = record { safe = walked_are_safe }
