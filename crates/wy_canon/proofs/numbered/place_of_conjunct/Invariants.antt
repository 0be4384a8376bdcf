use Rattle.std.proofs.Common.{◌≡◌, drop}
use Rattle.wy_types.specs.Conjuncts.{same_term}
use Rattle.wy_types.specs.Same as same
use Rattle.wy_canon.proofs.numbered.place_of_conjunct.Given as goal

abbrev pub invariant-loop-number : goal.invariant-loop-number
invariant-loop-number l = same.has_conjunct same_term (drop l.number l.conjuncts) l.conjunct ≡ same.has_conjunct same_term l.conjuncts l.conjunct
