use Rattle.std.proofs.Common.{Some, drop, map}
use Rattle.wy_core.specs.CoreSeen.{seen_alias}
use Rattle.wy_sem.specs.TypeTests.{clause_setting}
use Rattle.wy_eval_exprs.specs.Outcomes.{meter_of}
use Rattle.wy_eval_exprs.specs.Scopes.{store_of}
use Rattle.wy_eval_exprs.specs.Settings.{here}
use Rattle.wy_eval_exprs.proofs.VisitLemmas.{ClausesLeft}
use Rattle.wy_eval_exprs.proofs.clauses.clauses_hold.Given as goal

abbrev pub invariant-loop-clause : goal.invariant-loop-clause
invariant-loop-clause l = ClausesLeft (clause_setting here (Some l.declared.limit) (map seen_alias l.declared.types)) l.kind l.at l.clauses (store_of l.store) (meter_of l.fn.meter) (meter_of l.meter) (drop l.clause-index l.clauses)
