use Rattle.wy_search_laws.proofs.closing_lemmas.AtLeastLemmas.{shuts_more}
use Rattle.wy_search_laws.proofs.closing.what_shuts_a_node_shuts_more.Goals as goal

pub returns : goal.returns
returns c = shuts_more
