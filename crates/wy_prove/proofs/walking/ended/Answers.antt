use Rattle.std.proofs.Common.{refl}
use Rattle.wy_prove.proofs.walking.ended.Goals as goal

pub returns : goal.returns
returns c = record { steps = refl; names = λ nodes is. is.steps }
