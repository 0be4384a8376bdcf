use Rattle.wy_sound_statements.proofs.steps_lemmas.StepLemmas.{values_come_in}
use Rattle.wy_sound_statements.proofs.steps.values_come_in.Goals as goal

pub returns : goal.returns
returns c = record { come = values_come_in }
