use Rattle.std.proofs.Common.{Some, map}
use Rattle.wy_core.specs.CoreSeen.{seen_alias, seen_exprs}
use Rattle.wy_sem.specs.Expressions as spec
use Rattle.wy_sem.specs.TypeTests.{clause_setting}
use Rattle.wy_eval_exprs.specs.Outcomes.{itself, meter_of}
use Rattle.wy_eval_exprs.specs.Scopes.{store_of}
use Rattle.wy_eval_exprs.specs.Settings.{here}
use Rattle.wy_eval_exprs.proofs.StepLemmas.{done, refused}
use Rattle.wy_eval_exprs.proofs.VisitLemmas.{clauses_end, clauses_fail, clauses_stop, clauses_turn}
use Rattle.wy_eval_exprs.proofs.clauses.clauses_hold.Goals as goal

pub returns-in_err-holds : goal.returns-in_err-holds
returns-in_err-holds c =
    let W = clause_setting here (Some c.args.declared.now.limit) (map seen_alias c.args.declared.now.types) in
    let S = store_of c.args.store.now in
    let M0 = meter_of c.args.meter.now in
    let N = meter_of c.loop-clause.meter in
    let K = meter_of c.holds_at.new.meter in
    record {
      value = refused itself (spec.clauses W c.args.kind c.args.at (seen_exprs c.args.clauses.now) S done M0) K c.in_err-holds.field-0.0 c.from_residual.result
          (λ none. clauses_stop W c.args.kind c.args.at c.args.clauses.now S M0 N K c.loop-clause.clause-index c.clause-item.result c.place_of-place.result c.in_err-holds.field-0.0 c.loop-clause-test.true c.clause-item.is c.place_of-place.ensures.value
          c.in_err-holds.ensures.value c.loop-clause.invariant none) c.from_residual.ensures.1;
    }

pub returns-then-not-holds : goal.returns-then-not-holds
returns-then-not-holds c =
    let W = clause_setting here (Some c.args.declared.now.limit) (map seen_alias c.args.declared.now.types) in
    let S = store_of c.args.store.now in
    let M0 = meter_of c.args.meter.now in
    let N = meter_of c.loop-clause.meter in
    let K = meter_of c.holds_at.new.meter in
    record {
      value = λ none. clauses_fail W c.args.kind c.args.at c.args.clauses.now S M0 N K c.loop-clause.clause-index c.clause-item.result c.place_of-place.result c.loop-clause-test.true c.clause-item.is c.place_of-place.ensures.value
          c.in_ok-holds.holds c.in_ok-holds.ensures.value c.if-not-holds.true c.loop-clause.invariant;
    }

pub loop-clause-preserved : goal.loop-clause-preserved
loop-clause-preserved c =
    let W = clause_setting here (Some c.args.declared.now.limit) (map seen_alias c.args.declared.now.types) in
    let S = store_of c.args.store.now in
    let M0 = meter_of c.args.meter.now in
    let N = meter_of c.loop-clause.meter in
    let K = meter_of c.holds_at.new.meter in
    clauses_turn W c.args.kind c.args.at c.args.clauses.now S M0 N K c.loop-clause.clause-index c.clause-item.result c.place_of-place.result c.loop-clause-test.true c.clause-item.is c.place_of-place.ensures.value
    c.in_ok-holds.holds c.in_ok-holds.ensures.value c.if-not-holds.false c.loop-clause.invariant

pub returns : goal.returns
returns c =
    let W = clause_setting here (Some c.args.declared.now.limit) (map seen_alias c.args.declared.now.types) in
    let S = store_of c.args.store.now in
    let M0 = meter_of c.args.meter.now in
    let N = meter_of c.loop-clause.meter in
    record { value = clauses_end W c.args.kind c.args.at c.args.clauses.now S M0 N c.loop-clause.clause-index c.loop-clause-test.false c.loop-clause.invariant }
