use Rattle.wy_term_subst.proofs.grounded_lemmas.NumberLemmas.{founded_by_number}
use Rattle.wy_term_subst.proofs.grounded.orders_by_number_are_founded.Goals as goal

pub returns : goal.returns
returns c = founded_by_number
