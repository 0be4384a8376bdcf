use Rattle.wy_search_facts.proofs.SameLemmas.{same_facts}
use Rattle.wy_search_facts.proofs.law.facts_are_those_of_the_schemas.Goals as goal

pub returns : goal.returns
returns c = record { same = same_facts }
