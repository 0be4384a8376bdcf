use Rattle.wy_facts.specs.Seen.{Stays}
use Rattle.wy_prove_explaining.proofs.sources.sources_of.Given as goal

abbrev pub invariant-loop-i : goal.invariant-loop-i
invariant-loop-i l = Stays l.fn.terms l.terms
