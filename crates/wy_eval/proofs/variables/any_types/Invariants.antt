use Rattle.std.proofs.Common.{◌≡◌, ◌++◌, drop, map}
use Rattle.wy_core.specs.CoreSeen.{seen_ty}
use Rattle.wy_sem.specs.Evaluation.{any_types}
use Rattle.wy_eval.proofs.variables.any_types.Given as goal

abbrev pub invariant-loop-name : goal.invariant-loop-name
invariant-loop-name l = map seen_ty l.types ++ any_types (drop l.name-index l.variables) ≡ any_types l.variables
