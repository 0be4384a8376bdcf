use Rattle.std.proofs.Common.{◌≡◌, drop}
use Rattle.wy_lin_eliminate.specs.Adding.{part_from}
use Rattle.wy_lin_eliminate.proofs.adding.part_place.Given as goal

abbrev pub invariant-loop-k : goal.invariant-loop-k
invariant-loop-k l = part_from (drop l.k l.parts) l.v l.k ≡ part_from l.parts l.v 0
