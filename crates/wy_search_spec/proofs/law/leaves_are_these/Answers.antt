use Rattle.wy_search_spec.proofs.ProgramLemmas.{found_within}
use Rattle.wy_search_spec.proofs.law.leaves_are_these.Goals as goal

pub returns : goal.returns
returns c = found_within
