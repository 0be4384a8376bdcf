use Rattle.std.proofs.Common.{◌≡◌, take}
use Rattle.wy_canon.proofs.copies.copy_terms.Given as goal

abbrev pub invariant-loop-signed : goal.invariant-loop-signed
invariant-loop-signed l = l.made ≡ take l.signed-index l.all
