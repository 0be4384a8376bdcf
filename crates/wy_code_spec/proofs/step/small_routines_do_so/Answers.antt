use Rattle.wy_code_spec.proofs.step_lemmas.ExamplesHold.{routines_do}
use Rattle.wy_code_spec.proofs.step.small_routines_do_so.Goals as goal

pub returns : goal.returns
returns c = record { value = routines_do }
