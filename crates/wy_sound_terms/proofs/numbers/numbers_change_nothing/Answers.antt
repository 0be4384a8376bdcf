use Rattle.wy_sound_terms.proofs.numbers_lemmas.ProgramLemmas.{numbers_nothing}
use Rattle.wy_sound_terms.proofs.numbers.numbers_change_nothing.Goals as goal

pub returns : goal.returns
returns c = record { same = numbers_nothing }
