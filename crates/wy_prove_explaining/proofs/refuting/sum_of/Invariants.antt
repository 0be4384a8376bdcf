use Rattle.wy_facts.specs.Seen.{Stays}
use Rattle.wy_prove_explaining.proofs.refuting.sum_of.Given as goal

abbrev pub invariant-loop-order : goal.invariant-loop-order
invariant-loop-order l = Stays l.fn.terms l.terms
