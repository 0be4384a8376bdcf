use Rattle.std.proofs.Common.{rules}
use Rattle.wy_top_words.proofs.FoundLemmas.{flag_none, flag_some}
use Rattle.wy_top_words.proofs.read.has_stats.Goals as goal

pub returns-in-Some : goal.returns-in-Some
returns-in-Some c = search (rules, flag_some)

pub returns-in-None : goal.returns-in-None
returns-in-None c = search (rules, flag_none)
