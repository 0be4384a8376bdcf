use Rattle.wy_sound_terms.proofs.operations_lemmas.OperatorLemmas.{operators_agree}
use Rattle.wy_sound_terms.proofs.operations.operators_agree.Goals as goal

pub returns : goal.returns
returns c = record { agree = operators_agree }
