use Rattle.wy_search_laws.proofs.certified_lemmas.LeafLemmas.{found_conditions_are_certified}
use Rattle.wy_search_laws.proofs.certified.found_conditions_are_certified.Goals as goal

pub returns : goal.returns
returns c = record { certified = found_conditions_are_certified }
