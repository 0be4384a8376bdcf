use Rattle.std.proofs.Common.{◌≡◌, ◌+◌, map, Some, Ok, Err, refl, sym, ap, ◌∙◌}
use Rattle.wy_core.specs.CoreSeen.{seen_alias, seen_expr, seen_exprs}
use Rattle.wy_sem.specs.Meter.{Done}
use Rattle.wy_sem.specs.Precondition.{RequiresFails, requires_met}
use Rattle.wy_sem.specs.TypeTests.{clause_setting}
use Rattle.wy_eval_exprs.specs.Outcomes.{meter_of}
use Rattle.wy_eval_exprs.specs.Scopes.{store_of}
use Rattle.wy_eval_exprs.specs.Settings.{here}
use Rattle.wy_eval_exprs.proofs.StepLemmas.{refused}
use Rattle.wy_eval_exprs.specs.Verdicts.{requires_verdict}
use Rattle.wy_eval_exprs.proofs.TestLemmas.{clause_gives, clauses_end, clauses_fail, clauses_stop, clauses_turn}
use Rattle.wy_eval_exprs.proofs.precondition_clauses.first_not_true.Goals as goal

pub loop-clause-init : goal.loop-clause-init
loop-clause-init c = record { place = refl; left = refl }

pub returns-in_err-holds : goal.returns-in_err-holds
returns-in_err-holds c =
    let W = clause_setting here (Some c.args.declared.now.limit) (map seen_alias c.args.declared.now.types) in
    let all = c.args.clauses.now in
    let S = store_of c.args.store.now in
    let M0 = meter_of c.args.meter.now in
    let N = meter_of c.loop-clause.meter in
    let i = c.loop-clause.clause-index in
    let place : c.loop-clause.number ≡ i = c.loop-clause.invariant.place in
    let K = meter_of c.holds_at-answer.new.meter in
    let e = c.clause-item.result in
    let at = c.place_of-at.result in
    let answer = c.holds_at-answer.result in
    let f = c.in_err-holds.field-0.0 in
    let given = clause_gives W (seen_expr e) S N at answer (Err f) K c.place_of-at.ensures.value c.holds_at-answer.ensures.value c.in_err-holds.ensures.value in
    record {
      value = refused requires_verdict (requires_met W (seen_exprs all) S 1 M0) K f c.from_residual.result
          (λ none. clauses_stop W all S M0 i e N K f c.loop-clause-test.true c.clause-item.is given c.loop-clause.invariant.left none) c.from_residual.ensures.1;
    }

pub returns-then-not-holds : goal.returns-then-not-holds
returns-then-not-holds c =
    let W = clause_setting here (Some c.args.declared.now.limit) (map seen_alias c.args.declared.now.types) in
    let all = c.args.clauses.now in
    let S = store_of c.args.store.now in
    let M0 = meter_of c.args.meter.now in
    let N = meter_of c.loop-clause.meter in
    let i = c.loop-clause.clause-index in
    let place : c.loop-clause.number ≡ i = c.loop-clause.invariant.place in
    let K = meter_of c.holds_at-answer.new.meter in
    let e = c.clause-item.result in
    let at = c.place_of-at.result in
    let answer = c.holds_at-answer.result in
    let given = clause_gives W (seen_expr e) S N at answer (Ok c.in_ok-holds.holds) K c.place_of-at.ensures.value c.holds_at-answer.ensures.value c.in_ok-holds.ensures.value ∙ ap (λ b. Done b K) c.if-not-holds.true in
    record { value = clauses_fail W all S M0 i e N K c.loop-clause-test.true c.clause-item.is given c.loop-clause.invariant.left ∙ ap (λ n. Done (RequiresFails (n + 1)) K) (sym place) }

pub loop-clause-preserved : goal.loop-clause-preserved
loop-clause-preserved c =
    let W = clause_setting here (Some c.args.declared.now.limit) (map seen_alias c.args.declared.now.types) in
    let all = c.args.clauses.now in
    let S = store_of c.args.store.now in
    let M0 = meter_of c.args.meter.now in
    let N = meter_of c.loop-clause.meter in
    let i = c.loop-clause.clause-index in
    let place : c.loop-clause.number ≡ i = c.loop-clause.invariant.place in
    let K = meter_of c.holds_at-answer.new.meter in
    let e = c.clause-item.result in
    let at = c.place_of-at.result in
    let answer = c.holds_at-answer.result in
    let given = clause_gives W (seen_expr e) S N at answer (Ok c.in_ok-holds.holds) K c.place_of-at.ensures.value c.holds_at-answer.ensures.value c.in_ok-holds.ensures.value ∙ ap (λ b. Done b K) c.if-not-holds.false in
    record { place = ap (λ n. n + 1) place; left = clauses_turn W all S M0 i e N K c.loop-clause-test.true c.clause-item.is given c.loop-clause.invariant.left }

pub returns : goal.returns
returns c =
    let W = clause_setting here (Some c.args.declared.now.limit) (map seen_alias c.args.declared.now.types) in
    let all = c.args.clauses.now in
    let S = store_of c.args.store.now in
    let M0 = meter_of c.args.meter.now in
    let N = meter_of c.loop-clause.meter in
    let i = c.loop-clause.clause-index in
    let place : c.loop-clause.number ≡ i = c.loop-clause.invariant.place in
    record { value = clauses_end W all S M0 i N c.loop-clause-test.false c.loop-clause.invariant.left }
