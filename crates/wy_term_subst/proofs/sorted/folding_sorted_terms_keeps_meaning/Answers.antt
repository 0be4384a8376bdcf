use Rattle.wy_term_subst.proofs.sorted_lemmas.SortedLemmas.{folding_kept}
use Rattle.wy_term_subst.proofs.sorted.folding_sorted_terms_keeps_meaning.Goals as goal

pub returns : goal.returns
returns c = folding_kept
