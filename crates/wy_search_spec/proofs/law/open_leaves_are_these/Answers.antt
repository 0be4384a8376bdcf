use Rattle.wy_search_spec.proofs.ProgramLemmas.{open_leaves}
use Rattle.wy_search_spec.proofs.law.open_leaves_are_these.Goals as goal

pub returns : goal.returns
returns c = open_leaves
