use Rattle.wy_term_subst.proofs.kept_sorts_lemmas.SortLemmas.{substituted_sorted}
use Rattle.wy_term_subst.proofs.kept_sorts.substituting_keeps_sorts.Goals as goal

pub returns : goal.returns
returns c = substituted_sorted
