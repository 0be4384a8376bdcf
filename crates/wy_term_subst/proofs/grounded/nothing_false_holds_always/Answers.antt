use Rattle.wy_term_subst.proofs.grounded_lemmas.TruthLemmas.{nothing_false}
use Rattle.wy_term_subst.proofs.grounded.nothing_false_holds_always.Goals as goal

pub returns : goal.returns
returns c = nothing_false
