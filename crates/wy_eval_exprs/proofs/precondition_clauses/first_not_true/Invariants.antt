use Rattle.std.proofs.Common.{◌≡◌, Some, map}
use Rattle.wy_core.specs.CoreSeen.{seen_alias}
use Rattle.wy_sem.specs.TypeTests.{clause_setting}
use Rattle.wy_eval_exprs.specs.Outcomes.{meter_of}
use Rattle.wy_eval_exprs.specs.Scopes.{store_of}
use Rattle.wy_eval_exprs.specs.Settings.{here}
use Rattle.wy_eval_exprs.proofs.TestLemmas.{ClausesLeft}
use Rattle.wy_eval_exprs.proofs.precondition_clauses.first_not_true.Given as goal

abbrev pub invariant-loop-clause : goal.invariant-loop-clause
invariant-loop-clause l = record {
  place : l.number ≡ l.clause-index;
  left : ClausesLeft (clause_setting here (Some l.declared.limit) (map seen_alias l.declared.types)) l.clauses (store_of l.store) (meter_of l.fn.meter) l.clause-index (meter_of l.meter);
}
