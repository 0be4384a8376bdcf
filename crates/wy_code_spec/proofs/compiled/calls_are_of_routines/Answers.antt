use Rattle.wy_code_spec.proofs.compiled_lemmas.CallRoutineLemmas.{all_call}
use Rattle.wy_code_spec.proofs.compiled.calls_are_of_routines.Goals as goal

pub returns : goal.returns
returns c = record { value = all_call }
