use Rattle.wy_claim.proofs.Agreement.{reached_claimed}
use Rattle.wy_claim.proofs.laws.always_agree.Goals as goal

pub returns : goal.returns
returns c = reached_claimed
