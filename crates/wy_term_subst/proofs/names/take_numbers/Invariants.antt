use Rattle.std.proofs.Common.{ℕ, List, take}
use Rattle.wy_term_subst.specs.View.{noted_numbers, Counts}
use Rattle.wy_term_subst.proofs.names.take_numbers.Given as goal

abbrev pub invariant-loop-k : goal.invariant-loop-k
invariant-loop-k l = (ns : List ℕ) → Counts l.fn.taken ns → Counts l.taken (noted_numbers l.terms (take l.k-index l.all) ns)
