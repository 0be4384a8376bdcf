use Rattle.std.proofs.Common.{◌≡◌, drop}
use Rattle.wy_types.specs.Conjuncts.{same_term}
use Rattle.wy_types.specs.Same as same
use Rattle.wy_types.proofs.sameness.has_signed.Given as goal

abbrev pub invariant-loop-x : goal.invariant-loop-x
invariant-loop-x l = same.has_signed same_term (drop l.x-index l.all) l.signed ≡ same.has_signed same_term l.all l.signed
