use Rattle.std.proofs.Common.{◌≡◌, drop}
use Rattle.wy_types.specs.Merge as merging
use Rattle.wy_canon.proofs.meets.same_names.Given as goal

abbrev pub invariant-loop-x : goal.invariant-loop-x
invariant-loop-x l = merging.same_names (drop l.x-index l.xs) l.rest ≡ merging.same_names l.xs l.ys
