use Rattle.wy_live.proofs.live_paths_lemmas.MarkLemmas.{on_paths, of_paths}
use Rattle.wy_live.proofs.live_paths.last_uses_are_those_of_paths.Goals as goal

pub returns : goal.returns
returns c = record { paths = on_paths; marked = of_paths }
