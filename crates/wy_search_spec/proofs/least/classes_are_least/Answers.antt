use Rattle.wy_search_spec.proofs.least_lemmas.LeastLemmas.{classes_congruent, classes_least}
use Rattle.wy_search_spec.proofs.least.classes_are_least.Goals as goal

pub returns : goal.returns
returns c = record { congruent = classes_congruent; least = classes_least }
