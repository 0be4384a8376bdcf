use Rattle.wy_sound_types.proofs.sound_routines_lemmas.ContractLemmas.{contracts_safe}
use Rattle.wy_sound_types.proofs.sound_routines.contracts_are_safe.Goals as goal

pub returns : goal.returns
returns c = record { safe = contracts_safe }
