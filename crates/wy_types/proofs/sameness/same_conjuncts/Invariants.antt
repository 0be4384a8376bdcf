use Rattle.std.proofs.Common.{◌≡◌, drop}
use Rattle.wy_types.specs.Conjuncts.{same_term}
use Rattle.wy_types.specs.Same as same
use Rattle.wy_types.proofs.sameness.same_conjuncts.Given as goal

abbrev pub invariant-loop-x : goal.invariant-loop-x
invariant-loop-x l = same.same_conjuncts same_term (drop l.x-index l.a) l.rest ≡ same.same_conjuncts same_term l.a l.b
