use Rattle.std.proofs.Common.{◌≡◌, ◌++◌, drop}
use Rattle.wy_vc.specs.Tested.{types_at}
use Rattle.wy_vc.proofs.tests_of_types.types_at.Given as goal

-- those so far, and those of the terms that are left
abbrev pub invariant-loop-k : goal.invariant-loop-k
invariant-loop-k l = l.types.items ++ types_at l.terms (drop l.k-index l.all) ≡ types_at l.terms l.all
