use Rattle.std.proofs.Common.{◌≡◌, drop, map}
use Rattle.wy_core.specs.CoreSeen.{seen_param}
use Rattle.wy_value.specs.Seen.{seen}
use Rattle.wy_sem.specs.Evaluation.{bound}
use Rattle.wy_sem.specs.TypeTests as tests
use Rattle.wy_eval_exprs.specs.Scopes.{store_of}
use Rattle.wy_eval_exprs.proofs.scope.entry_of.Given as goal

abbrev pub invariant-loop-param : goal.invariant-loop-param
invariant-loop-param l = record {
  place : l.number ≡ l.param-index;
  left : bound (map seen_param (drop l.param-index l.params)) (map seen (drop l.param-index l.args)) (store_of l.store.items) ≡ bound (map seen_param l.params) (map seen l.args) (tests.unset l.variables);
}
