use Rattle.wy_types.proofs.formed_lemmas.OrderLemmas.{ordered_types}
use Rattle.wy_types.proofs.formed.types_of_a_formed_core_recur_through_parts.Goals as goal

pub returns : goal.returns
returns c = record { ordered = ordered_types }
