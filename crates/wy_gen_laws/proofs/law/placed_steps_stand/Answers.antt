use Rattle.wy_gen_laws.proofs.PlaceLemmas.{placed_stand}
use Rattle.wy_gen_laws.proofs.law.placed_steps_stand.Goals as goal

pub returns : goal.returns
returns c = record { stand = placed_stand }
