use Rattle.wy_top_words.proofs.FoundLemmas.{named_kind, named_none}
use Rattle.wy_top_words.proofs.read.asked.Goals as goal

pub returns-in-Some-kind_of-clause-value : goal.returns-in-Some-kind_of-clause-value
returns-in-Some-kind_of-clause-value c = named_kind c.args.matches.now _ _ c.in-Some-kind_of.kind _ c.in-Some.ensures.name c.in-Some.ensures.rows c.in-Some-kind_of.ensures.value c.asked_of.ensures.value

pub returns-in-None-kind_of-clause-value : goal.returns-in-None-kind_of-clause-value
returns-in-None-kind_of-clause-value c = named_none c.args.matches.now _ _ c.in-Some.ensures.name c.in-Some.ensures.rows c.in-None-kind_of.ensures.value
