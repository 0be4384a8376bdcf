use Rattle.std.proofs.Common.{nat_eq}
use Rattle.std.specs.HashSet.{contains}
use Rattle.wy_cong.proofs.walk.begin_listed.Given as goal
use Rattle.wy_cong.specs.Begun.{BeginListed}

-- no others are begun so far
abbrev pub invariant-loop-i : goal.invariant-loop-i
invariant-loop-i l = BeginListed (contains nat_eq l.fn.begun) (contains nat_eq l.begun) l.found.keys.items
