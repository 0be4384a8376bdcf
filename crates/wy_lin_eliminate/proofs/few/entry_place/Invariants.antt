use Rattle.std.proofs.Common.{◌≡◌, drop}
use Rattle.wy_lin_eliminate.specs.Seen.{entry_from}
use Rattle.wy_lin_eliminate.proofs.few.entry_place.Given as goal

abbrev pub invariant-loop-k : goal.invariant-loop-k
invariant-loop-k l = entry_from (drop l.k l.entries) l.v l.k ≡ entry_from l.entries l.v 0
