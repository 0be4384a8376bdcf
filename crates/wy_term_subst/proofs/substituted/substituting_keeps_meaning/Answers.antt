use Rattle.wy_term_subst.proofs.substituted_lemmas.MeantLemmas.{substituted_kept}
use Rattle.wy_term_subst.proofs.substituted.substituting_keeps_meaning.Goals as goal

pub returns : goal.returns
returns c = substituted_kept
