use Rattle.std.proofs.Common.{◌≡◌, ◌++◌, drop}
use Rattle.wy_eval_exprs.specs.Scopes.{store_of}
use Rattle.wy_eval.proofs.leaving.copied.Given as goal

abbrev pub invariant-loop-held : goal.invariant-loop-held
invariant-loop-held l = store_of l.store.items ++ store_of (drop l.held-index l.entry) ≡ store_of l.entry
