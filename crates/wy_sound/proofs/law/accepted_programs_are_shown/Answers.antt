use Rattle.wy_sound.proofs.AcceptedLemmas.{accepted_shown}
use Rattle.wy_sound.proofs.law.accepted_programs_are_shown.Goals as goal

pub returns : goal.returns
returns c = record { shown = accepted_shown }
