use Rattle.wy_code_spec.proofs.compiled_lemmas.RoutineLemmas.{all_framed}
use Rattle.wy_code_spec.proofs.compiled.routines_are_framed.Goals as goal

pub returns : goal.returns
returns c = record { value = all_framed }
