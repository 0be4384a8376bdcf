use Rattle.wy_sound_terms.proofs.operations_lemmas.OtherLemmas.{others_agree}
use Rattle.wy_sound_terms.proofs.operations.other_operations_agree.Goals as goal

pub returns : goal.returns
returns c = record { agree = others_agree }
