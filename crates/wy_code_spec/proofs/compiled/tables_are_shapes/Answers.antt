use Rattle.wy_code_spec.proofs.compiled_lemmas.ShapeLemmas.{core_shapes}
use Rattle.wy_code_spec.proofs.compiled.tables_are_shapes.Goals as goal

pub returns : goal.returns
returns c = record { value = core_shapes }
