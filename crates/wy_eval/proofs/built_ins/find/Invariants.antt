use Rattle.wy_eval.proofs.CalleeLemmas.{FindLeft}
use Rattle.wy_eval.proofs.built_ins.find.Given as goal

abbrev pub invariant-loop-decl : goal.invariant-loop-decl
invariant-loop-decl l = FindLeft l.decl-index l.decls l.left l.fn.number
