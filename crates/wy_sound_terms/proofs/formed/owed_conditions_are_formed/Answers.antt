use Rattle.wy_sound_terms.proofs.formed_lemmas.OwedLemmas.{conditions_formed}
use Rattle.wy_sound_terms.proofs.formed.owed_conditions_are_formed.Goals as goal

pub returns : goal.returns
returns c = record { formed = conditions_formed }
