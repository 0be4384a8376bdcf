use Rattle.std.proofs.Common.{◌≡◌, length}
use Rattle.wy_cong.specs.congruence_closure.Congruence.{IsSound}
use Rattle.wy_cong.specs.congruence_closure.Found.{AreJoined}
use Rattle.wy_cong.proofs.congruence_closure.closing.classes.Given as goal

abbrev pub invariant-loop-round : goal.invariant-loop-round
invariant-loop-round l = record {
  count : length l.labels ≡ length l.shapes;
  sound : IsSound l.shapes l.equations l.labels;
  joined : AreJoined (length l.equations) l.equations l.labels;
}
