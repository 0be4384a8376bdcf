use Rattle.wy_mach_run.proofs.sound_lemmas.ProperLemmas.{values_proper}
use Rattle.wy_mach_run.proofs.sound.argument_values_are_proper.Goals as goal

pub returns : goal.returns
returns c = record { proper = values_proper }
