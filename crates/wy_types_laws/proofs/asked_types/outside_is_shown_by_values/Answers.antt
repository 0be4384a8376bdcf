use Rattle.wy_types_laws.proofs.asked_types_lemmas.ShownLemmas.{outside_shown}
use Rattle.wy_types_laws.proofs.asked_types.outside_is_shown_by_values.Goals as goal

pub returns : goal.returns
returns c = record { value = outside_shown }
