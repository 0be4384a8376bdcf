use Rattle.wy_code_spec.proofs.compiled_lemmas.NamedRoutineLemmas.{all_named}
use Rattle.wy_code_spec.proofs.compiled.routines_are_named.Goals as goal

pub returns : goal.returns
returns c = record { value = all_named }
