use Rattle.wy_live.proofs.BitLemmas.{without_set}
use Rattle.wy_live.proofs.bits.without_bit.Goals as goal

pub returns : goal.returns
returns c = record { value = λ i h. without_set c.args.bits c.args.at i c.requires.within h }
