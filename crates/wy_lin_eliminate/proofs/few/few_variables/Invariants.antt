use Rattle.std.proofs.Common.{◌≡◌, map, drop}
use Rattle.wy_lin.specs.Seen.{linear_form}
use Rattle.wy_lin_eliminate.specs.Variables as variables
use Rattle.wy_lin_eliminate.proofs.few.few_variables.Given as goal

abbrev pub invariant-loop-i : goal.invariant-loop-i
invariant-loop-i l = variables.counted_from (map linear_form l.all) l.found.items (drop l.i-index l.places) ≡ variables.variables (map linear_form l.all) l.places
