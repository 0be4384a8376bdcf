use Rattle.std.proofs.Common.{◌≡◌, drop, None}
use Rattle.wy_lin_eliminate.specs.Variables as variables
use Rattle.wy_lin_eliminate.proofs.tally.best_of_many.Given as goal

abbrev pub invariant-loop-i : goal.invariant-loop-i
invariant-loop-i l = variables.best_from l.best (drop l.i l.found.entries) ≡ variables.best_from None l.found.entries
