use Rattle.wy_facts.specs.Seen.{Stays}
use Rattle.wy_prove_explaining.proofs.refuting.push_sums.Given as goal

abbrev pub invariant-loop-used : goal.invariant-loop-used
invariant-loop-used l = Stays l.fn.terms l.terms
