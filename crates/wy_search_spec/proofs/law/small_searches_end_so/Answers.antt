use Rattle.wy_search_spec.proofs.ExampleLemmas.{small_searches}
use Rattle.wy_search_spec.proofs.law.small_searches_end_so.Goals as goal

pub returns : goal.returns
returns c = small_searches
