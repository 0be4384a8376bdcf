use Rattle.std.proofs.Common.{◌≡◌, length}
use Rattle.wy_prove_writable.specs.Listed.{AreCopies}
use Rattle.wy_prove_writable.proofs.listed.writable_terms.Given as goal

-- the terms that were passed have their numbers
abbrev pub invariant-loop-number : goal.invariant-loop-number
invariant-loop-number l = (length l.copies.items ≡ l.number) × AreCopies l.terms l.again l.copies.items
