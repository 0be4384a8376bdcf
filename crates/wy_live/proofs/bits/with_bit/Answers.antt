use Rattle.wy_live.proofs.BitLemmas.{with_set, with_filled}
use Rattle.wy_live.proofs.bits.with_bit.Goals as goal

pub returns-clause-value : goal.returns-clause-value
returns-clause-value c = λ i. with_set c.args.bits c.args.at i c.requires.within

pub returns-clause-filled : goal.returns-clause-filled
returns-clause-filled c = with_filled c.args.bits c.args.at c.requires.within
