use Rattle.wy_sound_terms.proofs.operations_lemmas.UpdateLemmas.{updates_agree}
use Rattle.wy_sound_terms.proofs.operations.updates_agree.Goals as goal

pub returns : goal.returns
returns c = record { agree = updates_agree }
