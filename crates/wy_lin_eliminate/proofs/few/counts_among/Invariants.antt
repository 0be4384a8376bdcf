use Rattle.std.proofs.Common.{◌≡◌, drop}
use Rattle.wy_lin_eliminate.specs.Variables as variables
use Rattle.wy_lin_eliminate.proofs.few.counts_among.Given as goal

abbrev pub invariant-loop-entry : goal.invariant-loop-entry
invariant-loop-entry l = variables.counts_of (drop l.entry-index l.entries) l.v ≡ variables.counts_of l.entries l.v
