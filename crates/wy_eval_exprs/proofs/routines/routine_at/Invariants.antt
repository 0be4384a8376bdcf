use Rattle.std.proofs.Common.{◌≡◌, map}
use Rattle.wy_core.specs.CoreSeen.{seen_decl}
use Rattle.wy_core.specs.CoreTree.{routines_of}
use Rattle.wy_sem.specs.Evaluation.{callee}
use Rattle.wy_eval_exprs.proofs.RoutineLemmas.{callee_from}
use Rattle.wy_eval_exprs.proofs.routines.routine_at.Given as goal

abbrev pub invariant-loop-decl : goal.invariant-loop-decl
invariant-loop-decl l = callee_from l.decl-index l.decls l.left ≡ callee (routines_of (map seen_decl l.decls)) l.fn.entry
