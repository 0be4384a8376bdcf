use Rattle.wy_top_big.proofs.TreeLemmas.{printed}
use Rattle.wy_top_big.proofs.law.sources_are_printed_trees.Goals as goal

pub returns : goal.returns
returns c = record { printed = printed }
