use Rattle.wy_code_spec.proofs.compiled_lemmas.ExamplesHold.{programs_have}
use Rattle.wy_code_spec.proofs.compiled.small_programs_have_this_code.Goals as goal

pub returns : goal.returns
returns c = record { value = programs_have }
