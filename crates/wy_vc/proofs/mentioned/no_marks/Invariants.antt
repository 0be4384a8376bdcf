use Rattle.std.proofs.Common.{◌≡◌, ℕ, false, length}
use Rattle.wy_vc.specs.Mentioned.{marked}
use Rattle.wy_vc.proofs.mentioned.no_marks.Given as goal

abbrev pub invariant-loop-number : goal.invariant-loop-number
invariant-loop-number l = (length l.marks.items ≡ l.number) × ((n : ℕ) → marked l.marks.items n ≡ false)
