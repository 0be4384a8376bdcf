use Rattle.std.proofs.Common.{◌≡◌, drop}
use Rattle.wy_lin_eliminate.specs.Variables as variables
use Rattle.wy_lin_eliminate.proofs.comparing.opposes.Given as goal

abbrev pub invariant-loop-p : goal.invariant-loop-p
invariant-loop-p l = variables.opposes (drop l.p-index l.ps) l.qs ≡ variables.opposes l.ps l.qs
