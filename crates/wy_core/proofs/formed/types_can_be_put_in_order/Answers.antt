use Rattle.wy_core.proofs.formed_lemmas.RankLemmas.{ranked_types}
use Rattle.wy_core.proofs.formed.types_can_be_put_in_order.Goals as goal

pub returns : goal.returns
returns c = record { ranked = ranked_types }
