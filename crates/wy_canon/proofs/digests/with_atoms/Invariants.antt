use Rattle.std.proofs.Common.{◌≡◌, drop}
use Rattle.wy_canon.specs.Digests.{with_atoms}
use Rattle.wy_canon.proofs.digests.with_atoms.Given as goal

abbrev pub invariant-loop-atom : goal.invariant-loop-atom
invariant-loop-atom l = with_atoms l.made (drop l.atom-index l.atoms) ≡ with_atoms l.digest l.atoms
