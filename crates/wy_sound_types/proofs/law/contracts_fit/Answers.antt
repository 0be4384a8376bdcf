use Rattle.wy_sound_types.proofs.RoutineLemmas.{contracts_fit}
use Rattle.wy_sound_types.proofs.law.contracts_fit.Goals as goal

pub returns : goal.returns
returns c = record { fit = contracts_fit }
