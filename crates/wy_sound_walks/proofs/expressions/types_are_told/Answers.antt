use Rattle.wy_sound_walks.proofs.expressions_lemmas.LawLemmas.{types_told}
use Rattle.wy_sound_walks.proofs.expressions.types_are_told.Goals as goal

pub returns : goal.returns
returns c = record { told = types_told }
