use Rattle.std.proofs.Common.{◌≡◌, map, take}
use Rattle.wy_cong.specs.congruence_closure.Found.{moved}
use Rattle.wy_cong.proofs.congruence_closure.labels.joined.Given as goal

abbrev pub invariant-loop-l : goal.invariant-loop-l
invariant-loop-l l = l.made ≡ take l.l-index (map (moved l.from l.into) l.labels)
