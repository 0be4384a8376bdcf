use Rattle.std.proofs.Common.{◌+◌, length, cond, map}
use Rattle.wy_ast.specs.SurfaceSeen.{seen_decl}
use Rattle.wy_names_recursion.proofs.RoundLemmas.{Grown}
use Rattle.wy_names_recursion.proofs.rounds.by_rounds.Given as goal

abbrev pub invariant-loop-is_done : goal.invariant-loop-is_done
invariant-loop-is_done l = Grown (map seen_decl l.decls) l.edges l.order l.rest l.is_done

abbrev pub decreases-loop-is_done : goal.decreases-loop-is_done
decreases-loop-is_done l = length l.rest + cond l.is_done 0 1
