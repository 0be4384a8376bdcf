use Rattle.std.proofs.Common.{◌++◌, drop}
use Rattle.wy_cong.specs.congruence_closure.Congruence.{Same}
use Rattle.wy_cong.specs.congruence_closure.Found.{IsChosen}
use Rattle.wy_cong.proofs.congruence_closure.explaining.explain.Given as goal

abbrev pub invariant-loop-k : goal.invariant-loop-k
invariant-loop-k l = record { chosen : IsChosen l.equations l.chosen; same : Same l.shapes (l.chosen.equations ++ drop l.k l.equations) l.s l.t }
