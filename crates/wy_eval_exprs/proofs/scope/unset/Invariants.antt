use Rattle.std.proofs.Common.{◌≡◌, ◌++◌, drop}
use Rattle.wy_sem.specs.TypeTests as tests
use Rattle.wy_eval_exprs.specs.Scopes.{store_of}
use Rattle.wy_eval_exprs.proofs.scope.unset.Given as goal

abbrev pub invariant-loop-name : goal.invariant-loop-name
invariant-loop-name l = store_of l.store.items ++ tests.unset (drop l.name-index l.variables) ≡ tests.unset l.variables
