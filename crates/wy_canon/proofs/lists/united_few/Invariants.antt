use Rattle.std.proofs.Common.{◌≡◌, drop}
use Rattle.wy_types.specs.Conjuncts.{same_term}
use Rattle.wy_types.specs.Same as same
use Rattle.wy_canon.proofs.lists.united_few.Given as goal

abbrev pub invariant-loop-conjunct : goal.invariant-loop-conjunct
invariant-loop-conjunct l = same.united_conjuncts same_term l.all (drop l.conjunct-index l.more) ≡ same.united_conjuncts same_term l.fn.first l.more
