use Rattle.wy_claim.proofs.Told.{never_twice}
use Rattle.wy_claim.proofs.laws.never_twice.Goals as goal

pub returns : goal.returns
returns c = never_twice
