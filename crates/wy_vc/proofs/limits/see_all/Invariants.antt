use Rattle.std.proofs.Common.{length}
use Rattle.wy_vc.specs.Shared.{AreUnder}
use Rattle.wy_vc.proofs.SeenLemmas.{IsSeeing}
use Rattle.wy_vc.proofs.limits.see_all.Given as goal

abbrev pub invariant-loop-number : goal.invariant-loop-number
invariant-loop-number l = AreUnder (length l.terms) l.numbers → IsSeeing l.terms l.fn.seen l.seen l.numbers l.number-index
