use Rattle.wy_search_laws.proofs.chains_lemmas.ClashLemmas.{clashing_nodes_close}
use Rattle.wy_search_laws.proofs.chains.clashing_nodes_close.Goals as goal

pub returns : goal.returns
returns c = record { close = clashing_nodes_close }
