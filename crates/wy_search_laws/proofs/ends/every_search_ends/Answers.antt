use Rattle.wy_search_laws.proofs.ends_lemmas.RoundLemmas.{every_ends}
use Rattle.wy_search_laws.proofs.ends.every_search_ends.Goals as goal

pub returns : goal.returns
returns c = record { ends = every_ends }
