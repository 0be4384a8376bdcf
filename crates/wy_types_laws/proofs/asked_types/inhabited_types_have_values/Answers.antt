use Rattle.wy_types_laws.proofs.asked_types_lemmas.ShownLemmas.{inhabited_shown}
use Rattle.wy_types_laws.proofs.asked_types.inhabited_types_have_values.Goals as goal

pub returns : goal.returns
returns c = record { value = inhabited_shown }
