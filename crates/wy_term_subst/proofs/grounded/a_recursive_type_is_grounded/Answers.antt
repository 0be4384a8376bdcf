use Rattle.wy_term_subst.proofs.grounded_lemmas.ChainLemmas.{chains_grounded}
use Rattle.wy_term_subst.proofs.grounded.a_recursive_type_is_grounded.Goals as goal

pub returns : goal.returns
returns c = chains_grounded
