use Rattle.wy_live.proofs.BitLemmas.{either_set, either_filled}
use Rattle.wy_live.proofs.bits.either.Goals as goal

pub returns-clause-value : goal.returns-clause-value
returns-clause-value c = λ i. either_set c.args.one c.args.other i

pub returns-clause-filled : goal.returns-clause-filled
returns-clause-filled c = either_filled c.args.one c.args.other
