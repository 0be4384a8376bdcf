use Rattle.std.proofs.Common.{◌≡◌, drop}
use Rattle.wy_types.specs.Conjuncts.{same_term}
use Rattle.wy_types.specs.Same as same
use Rattle.wy_canon.proofs.lists.united_atoms.Given as goal

abbrev pub invariant-loop-atom : goal.invariant-loop-atom
invariant-loop-atom l = same.united_atoms same_term l.all (drop l.atom-index l.more) ≡ same.united_atoms same_term l.fn.first l.more
