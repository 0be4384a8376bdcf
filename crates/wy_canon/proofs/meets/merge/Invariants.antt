use Rattle.std.proofs.Common.{◌≡◌, drop}
use Rattle.wy_types.specs.Conjuncts.{same_term}
use Rattle.wy_types.specs.Merge as merging
use Rattle.wy_canon.proofs.meets.merge.Given as goal

abbrev pub invariant-loop-x : goal.invariant-loop-x
invariant-loop-x l = merging.with_merge same_term l.made (drop l.x-index l.xs) l.ys ≡ merging.merge same_term l.xs l.ys
