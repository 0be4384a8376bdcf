use Rattle.wy_sound_terms.proofs.operations_lemmas.OtherLemmas.{early_agree}
use Rattle.wy_sound_terms.proofs.operations.early_operators_agree.Goals as goal

pub returns : goal.returns
returns c = record { agree = early_agree }
