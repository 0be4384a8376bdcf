use Rattle.wy_search_laws.proofs.sound_lemmas.FoundLemmas.{found_true}
use Rattle.wy_search_laws.proofs.sound.found_conditions_are_true.Goals as goal

pub returns : goal.returns
returns c = record { sound = found_true }
