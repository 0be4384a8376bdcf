use Rattle.std.proofs.Common.{◌≡◌, drop}
use Rattle.wy_types.specs.Conjuncts.{same_term}
use Rattle.wy_types.specs.Merge as merging
use Rattle.wy_canon.proofs.outs.with_plains.Given as goal

abbrev pub invariant-loop-atom : goal.invariant-loop-atom
invariant-loop-atom l = merging.with_plains same_term l.made (drop l.atom-index l.atoms) ≡ merging.with_plains same_term l.fn.made l.atoms
