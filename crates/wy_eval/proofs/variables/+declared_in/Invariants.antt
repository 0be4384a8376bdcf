use Rattle.std.proofs.Common.{◌≡◌, drop, map}
use Rattle.wy_core.specs.CoreSeen.{seen_block, seen_ty}
use Rattle.wy_sem.specs.Evaluation.{declared_in_all}
use Rattle.wy_eval.proofs.variables.+declared_in.Given as goal

abbrev pub invariant-declared_in_all-loop-stmt : goal.invariant-declared_in_all-loop-stmt
invariant-declared_in_all-loop-stmt l = declared_in_all (seen_block (drop l.stmt-index l.stmts)) (map seen_ty l.types) ≡ declared_in_all (seen_block l.stmts) (map seen_ty l.fn.types)
