use Rattle.std.proofs.Common.{refl}
use Rattle.wy_prove.proofs.walking.resumed.Goals as goal

pub returns : goal.returns
returns c = record {
  value = λ k budget v at h. h;
  leaves = refl;
  walk = λ nodes is are. record { draft = record { steps = is.steps; branch = are.1 }; spot = are.0; waiting = are.2 };
}
