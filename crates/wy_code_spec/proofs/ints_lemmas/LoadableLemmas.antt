-- The code of a program is such as a machine takes.
use Rattle.std.proofs.Common.{ℕ}
use Rattle.wy_core.specs.CoreTree.{Core}
use Rattle.wy_core.specs.formed.Literals.{Ints}
use Rattle.wy_code_spec.specs.compiled.Fields.{HasFields}
use Rattle.wy_code_spec.specs.compiled.Programs.{code_of}
use Rattle.wy_code_spec.proofs.compiled_lemmas.ShapeLemmas.{core_shapes}
use Rattle.wy_code_spec.specs.ints.Loadable.{IsLoadable}
use Rattle.wy_code_spec.proofs.ints_lemmas.RoutineInts.{all_ints}

pub loadable : (core : Core ℕ) → HasFields core → Ints core → IsLoadable (code_of core)
loadable core fields ints = record { table = core_shapes core fields; ints = all_ints core ints }
