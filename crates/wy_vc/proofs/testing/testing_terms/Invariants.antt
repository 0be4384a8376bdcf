use Rattle.std.proofs.Common.{◌≡◌, length}
use Rattle.wy_vc.specs.Tested.{AreQuiet}
use Rattle.wy_vc.proofs.testing.testing_terms.Given as goal

abbrev pub invariant-loop-number : goal.invariant-loop-number
invariant-loop-number l = (length l.marks.items ≡ l.number) × AreQuiet l.terms l.marks.items
