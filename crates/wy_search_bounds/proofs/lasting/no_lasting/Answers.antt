use Rattle.wy_search_bounds.proofs.KnownLemmas.{none_known, none_lasts}
use Rattle.wy_search_bounds.proofs.lasting.no_lasting.Goals as goal

pub returns : goal.returns
returns c = λ n at l o e. none_known _ o (none_lasts c.new-holding.result.items c.new-denied.result.items l c.new-holding.ensures.items c.new-denied.ensures.items) e
