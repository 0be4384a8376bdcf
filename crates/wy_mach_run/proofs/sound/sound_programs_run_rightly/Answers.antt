use Rattle.wy_mach_run.proofs.sound_lemmas.RunLemmas.{run_rightly}
use Rattle.wy_mach_run.proofs.sound.sound_programs_run_rightly.Goals as goal

pub returns : goal.returns
returns c = record { rightly = run_rightly }
