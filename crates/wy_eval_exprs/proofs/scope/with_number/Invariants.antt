use Rattle.std.proofs.Common.{◌≡◌, ◌++◌, ◌∷◌, drop}
use Rattle.wy_eval_exprs.proofs.scope.with_number.Given as goal

abbrev pub invariant-loop-entry : goal.invariant-loop-entry
invariant-loop-entry l = l.made ++ drop l.entry-index l.over ≡ (l.variable, l.number) ∷ l.over
