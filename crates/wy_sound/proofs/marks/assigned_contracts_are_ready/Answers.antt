use Rattle.wy_sound.proofs.marks_lemmas.ClauseLemmas.{contracts_ready}
use Rattle.wy_sound.proofs.marks.assigned_contracts_are_ready.Goals as goal

pub returns : goal.returns
returns c = record { ready = contracts_ready }
