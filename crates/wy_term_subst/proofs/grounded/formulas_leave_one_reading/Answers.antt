use Rattle.wy_term_subst.proofs.grounded_lemmas.UniqueLemmas.{one_reading}
use Rattle.wy_term_subst.proofs.grounded.formulas_leave_one_reading.Goals as goal

pub returns : goal.returns
returns c = one_reading
