use Rattle.std.proofs.Common.{◌≡◌, drop}
use Rattle.wy_lin_eliminate.specs.Variables as variables
use Rattle.wy_lin_eliminate.proofs.comparing.agrees.Given as goal

abbrev pub invariant-loop-p : goal.invariant-loop-p
invariant-loop-p l = variables.agrees (drop l.p-index l.ps) l.qs ≡ variables.agrees l.ps l.qs
