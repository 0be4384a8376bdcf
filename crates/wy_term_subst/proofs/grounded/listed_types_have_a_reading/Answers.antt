use Rattle.wy_term_subst.proofs.grounded_lemmas.ReadingLemmas.{a_reading}
use Rattle.wy_term_subst.proofs.grounded.listed_types_have_a_reading.Goals as goal

pub returns : goal.returns
returns c = a_reading
