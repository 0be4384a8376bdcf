use Rattle.std.proofs.Common.{◌≡◌, map, take}
use Rattle.wy_cong.specs.Heads.{moved}
use Rattle.wy_cong.proofs.labels.relabelled.Given as goal

abbrev pub invariant-loop-l : goal.invariant-loop-l
invariant-loop-l l = l.made.items ≡ take l.l-index (map (moved l.from l.into) l.labels)
