use Rattle.wy_eval.proofs.CalleeLemmas.{CountLeft}
use Rattle.wy_eval.proofs.built_ins.counted.Given as goal

abbrev pub invariant-loop-decl : goal.invariant-loop-decl
invariant-loop-decl l = CountLeft l.decl-index l.decls l.count
