use Rattle.std.proofs.Common.{◌≡◌, drop}
use Rattle.wy_types.specs.Conjuncts.{same_term}
use Rattle.wy_types.specs.Merge as merging
use Rattle.wy_canon.proofs.meets.with_pairs.Given as goal

abbrev pub invariant-loop-y : goal.invariant-loop-y
invariant-loop-y l = merging.with_pairs same_term l.made l.x (drop l.y-index l.ys) ≡ merging.with_pairs same_term l.fn.made l.x l.ys
