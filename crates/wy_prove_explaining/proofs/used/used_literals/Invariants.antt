use Rattle.wy_facts.specs.Seen.{Stays}
use Rattle.wy_prove_explaining.proofs.used.used_literals.Given as goal

abbrev pub invariant-loop-k : goal.invariant-loop-k
invariant-loop-k l = Stays l.fn.terms l.terms
