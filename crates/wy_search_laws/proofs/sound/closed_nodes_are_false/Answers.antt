use Rattle.wy_search_laws.proofs.sound_lemmas.ClosedLemmas.{closed_never}
use Rattle.wy_search_laws.proofs.sound.closed_nodes_are_false.Goals as goal

pub returns : goal.returns
returns c = closed_never
