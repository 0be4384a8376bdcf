use Rattle.clap.specs.Words.{found_of}
use Rattle.wy_top_words.proofs.FoundLemmas.{asked_none, asked_some}
use Rattle.wy_top_words.proofs.read.asked_of.Goals as goal

pub returns-in-Some-clause-value : goal.returns-in-Some-clause-value
returns-in-Some-clause-value c = asked_some (found_of c.args.own.now) c.args.kind _ _ _ _ _ _ c.in-Some.ensures c.get_str.ensures c.get_str-in-Some.ensures c.get_str-in-Some-2.ensures c.has_stats.ensures.value c.order.ensures.value

pub returns-in-None-clause-value : goal.returns-in-None-clause-value
returns-in-None-clause-value c = asked_none (found_of c.args.own.now) c.args.kind c.in-None.ensures
