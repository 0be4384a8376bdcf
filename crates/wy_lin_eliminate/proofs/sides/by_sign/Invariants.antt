use Rattle.std.proofs.Common.{◌≡◌, map, drop}
use Rattle.wy_lin.specs.Seen.{linear_form}
use Rattle.wy_lin_eliminate.specs.Variables as variables
use Rattle.wy_lin_eliminate.proofs.sides.by_sign.Given as goal

abbrev pub invariant-loop-i : goal.invariant-loop-i
invariant-loop-i l = variables.sides_from (map linear_form l.all) l.v l.made (drop l.i-index l.places) ≡ variables.sides (map linear_form l.all) l.v l.places
