use Rattle.std.proofs.Common.{◌≡◌, map, drop}
use Rattle.wy_lin.specs.Seen.{linear_form}
use Rattle.wy_lin_eliminate.specs.Elimination as elimination
use Rattle.wy_lin_eliminate.proofs.table.equal_place.Given as goal

abbrev pub invariant-loop-k : goal.invariant-loop-k
invariant-loop-k l = elimination.equal_from (map linear_form l.all) l.parts (drop l.k l.standing) l.k ≡ elimination.equal_from (map linear_form l.all) l.parts l.standing 0
