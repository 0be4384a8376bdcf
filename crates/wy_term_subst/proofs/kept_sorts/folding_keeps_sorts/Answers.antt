use Rattle.wy_term_subst.proofs.kept_sorts_lemmas.SortLemmas.{folded_sorted}
use Rattle.wy_term_subst.proofs.kept_sorts.folding_keeps_sorts.Goals as goal

pub returns : goal.returns
returns c = folded_sorted
