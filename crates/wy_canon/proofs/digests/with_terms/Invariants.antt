use Rattle.std.proofs.Common.{◌≡◌, drop}
use Rattle.wy_canon.specs.Digests.{with_terms}
use Rattle.wy_canon.proofs.digests.with_terms.Given as goal

abbrev pub invariant-loop-signed : goal.invariant-loop-signed
invariant-loop-signed l = with_terms l.made (drop l.signed-index l.terms) ≡ with_terms l.digest l.terms
