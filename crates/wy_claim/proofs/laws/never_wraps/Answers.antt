use Rattle.wy_claim.proofs.Agreement.{within, reached_claimed}
use Rattle.wy_claim.proofs.laws.never_wraps.Goals as goal

pub returns : goal.returns
returns c = λ plan counter seats reached. within plan counter seats (reached_claimed plan counter seats reached)
