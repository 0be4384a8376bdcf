use Rattle.wy_term.proofs.FoldingLemmas.{folding_keeps_meaning}
use Rattle.wy_term.proofs.law.folding_keeps_meaning.Goals as goal

pub returns : goal.returns
returns c = record { sound = folding_keeps_meaning }
