use Rattle.std.proofs.Common.{◌≡◌, take}
use Rattle.wy_canon.proofs.copies.copy_atoms.Given as goal

abbrev pub invariant-loop-atom : goal.invariant-loop-atom
invariant-loop-atom l = l.made ≡ take l.atom-index l.all
