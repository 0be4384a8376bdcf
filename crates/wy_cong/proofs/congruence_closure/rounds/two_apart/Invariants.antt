use Rattle.std.specs.HashMap.{get}
use Rattle.wy_cong.specs.congruence_closure.Found.{same_pair, AllFound, AreKeyed}
use Rattle.wy_cong.proofs.congruence_closure.rounds.two_apart.Given as goal

abbrev pub invariant-loop-index : goal.invariant-loop-index
invariant-loop-index l = record { keyed : AreKeyed l.shapes l.labels (get same_pair l.found); found : AllFound l.shapes l.labels (get same_pair l.found) l.index }
