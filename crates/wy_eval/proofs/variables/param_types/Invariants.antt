use Rattle.std.proofs.Common.{◌≡◌, drop, map}
use Rattle.wy_core.specs.CoreSeen.{seen_param, seen_ty}
use Rattle.wy_sem.specs.Evaluation.{param_types}
use Rattle.wy_eval.proofs.variables.param_types.Given as goal

abbrev pub invariant-loop-param : goal.invariant-loop-param
invariant-loop-param l = param_types (map seen_param (drop l.param-index l.params)) (map seen_ty l.types) ≡ param_types (map seen_param l.params) (map seen_ty l.fn.types)
