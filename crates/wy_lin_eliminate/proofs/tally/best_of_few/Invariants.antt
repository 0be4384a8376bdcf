use Rattle.std.proofs.Common.{◌≡◌, drop, None}
use Rattle.wy_lin_eliminate.specs.Variables as variables
use Rattle.wy_lin_eliminate.proofs.tally.best_of_few.Given as goal

abbrev pub invariant-loop-entry : goal.invariant-loop-entry
invariant-loop-entry l = variables.best_from l.best (drop l.entry-index l.entries) ≡ variables.best_from None l.entries
