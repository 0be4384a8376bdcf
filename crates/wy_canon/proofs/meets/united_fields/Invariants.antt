use Rattle.std.proofs.Common.{◌≡◌, ◌++◌, drop}
use Rattle.wy_types.specs.Conjuncts.{same_term}
use Rattle.wy_types.specs.Merge as merging
use Rattle.wy_canon.proofs.meets.united_fields.Given as goal

abbrev pub invariant-loop-x : goal.invariant-loop-x
invariant-loop-x l = (l.made ++ merging.united_fields same_term (drop l.x-index l.xs) l.rest) ≡ merging.united_fields same_term l.xs l.ys
