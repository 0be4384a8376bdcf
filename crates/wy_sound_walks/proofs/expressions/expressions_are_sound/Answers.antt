use Rattle.wy_sound_walks.proofs.expressions_lemmas.LawLemmas.{expressions_sound}
use Rattle.wy_sound_walks.proofs.expressions.expressions_are_sound.Goals as goal

pub returns : goal.returns
returns c = record { sound = expressions_sound }
