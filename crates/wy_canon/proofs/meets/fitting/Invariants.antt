use Rattle.std.proofs.Common.{◌≡◌, ◌++◌, drop}
use Rattle.wy_types.specs.Merge as merging
use Rattle.wy_canon.proofs.meets.fitting.Given as goal

abbrev pub invariant-loop-atom : goal.invariant-loop-atom
invariant-loop-atom l = (l.made ++ merging.fitting l.fields (drop l.atom-index l.negatives)) ≡ (l.fn.made ++ merging.fitting l.fields l.negatives)
