use Rattle.std.proofs.Common.{◌≡◌, drop}
use Rattle.wy_eval_exprs.specs.Scopes.{number_at}
use Rattle.wy_eval_exprs.proofs.scope.bound_number.Given as goal

abbrev pub invariant-loop-entry : goal.invariant-loop-entry
invariant-loop-entry l = number_at l.over l.variable ≡ number_at (drop l.entry-index l.over) l.variable
