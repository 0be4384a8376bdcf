use Rattle.wy_search_laws.proofs.rounds_lemmas.SearchLemmas.{found_certified}
use Rattle.wy_search_laws.proofs.rounds.found_conditions_are_certified_by_leaves.Goals as goal

pub returns : goal.returns
returns c = record { certified = found_certified }
