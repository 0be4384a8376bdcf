use Rattle.wy_search_laws.proofs.sums_lemmas.RefutedLemmas.{refuted_nodes_close}
use Rattle.wy_search_laws.proofs.sums.refuted_nodes_close.Goals as goal

pub returns : goal.returns
returns c = record { close = refuted_nodes_close }
