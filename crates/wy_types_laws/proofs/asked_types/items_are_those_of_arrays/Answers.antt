use Rattle.wy_types_laws.proofs.asked_types_lemmas.ShownLemmas.{items_shown}
use Rattle.wy_types_laws.proofs.asked_types.items_are_those_of_arrays.Goals as goal

pub returns : goal.returns
returns c = record { value = items_shown }
