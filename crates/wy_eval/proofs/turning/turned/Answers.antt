use Rattle.std.proofs.Common.{Some, map, sym, ap, ◌∙◌}
use Rattle.wy_core.specs.CoreSeen.{seen_alias, seen_exprs}
use Rattle.wy_term.specs.declared.cond.CondKind.TheVariants.{Keep}
use Rattle.wy_sem.specs.Expressions.{clauses}
use Rattle.wy_sem.specs.Statements.{go_round}
use Rattle.wy_sem.specs.TypeTests.{clause_setting}
use Rattle.wy_eval_exprs.specs.Outcomes.{meter_of}
use Rattle.wy_eval_exprs.specs.Scopes.{store_of}
use Rattle.wy_eval_exprs.specs.Settings.{here}
use Rattle.wy_eval.specs.Exits.{seen_exit}
use Rattle.wy_eval.proofs.FollowLemmas.{clauses_stops, clauses_then}
use Rattle.wy_eval.specs.Settings.{kept}
use Rattle.wy_eval.proofs.TurnedLemmas.{round_refused}
use Rattle.wy_eval.proofs.turning.turned.Goals as goal

pub returns-in_err-clauses_hold-in-Went : goal.returns-in_err-clauses_hold-in-Went
returns-in_err-clauses_hold-in-Went c =
    let L = c.args.program.now.declared.limit in
    let types = map seen_alias c.args.program.now.declared.types in
    let W = clause_setting here (Some L) types in
    let at = c.args.at in
    let es = seen_exprs c.args.invariants.now in
    let M0 = meter_of c.args.meter.now in
    let K = meter_of c.clauses_hold.new.meter in
    let S = store_of c.in-Went.next.items in
    let held = ap store_of c.as_slice-held.ensures.value in
    let s = store_of c.as_slice-held.result.now in
    let e = c.in_err-clauses_hold-in-Went.field-0.0 in
    let r = c.from_residual.result in
    record {
      value = round_refused L types at es (seen_exit c.args.exit) M0 K e r (λ none next. ap (λ x. go_round at (kept W es) next (seen_exit x) M0) c.in-Went.is
          ∙ (ap (λ z. clauses W Keep at es z (next S) M0) (sym held) ∙ clauses_stops W Keep at es s (next S) M0 K e c.in_err-clauses_hold-in-Went.ensures.value none)) c.from_residual.ensures.1;
    }

pub returns-in_ok-clauses_hold-in-Went : goal.returns-in_ok-clauses_hold-in-Went
returns-in_ok-clauses_hold-in-Went c =
    let L = c.args.program.now.declared.limit in
    let types = map seen_alias c.args.program.now.declared.types in
    let W = clause_setting here (Some L) types in
    let at = c.args.at in
    let es = seen_exprs c.args.invariants.now in
    let M0 = meter_of c.args.meter.now in
    let K = meter_of c.clauses_hold.new.meter in
    let S = store_of c.in-Went.next.items in
    let held = ap store_of c.as_slice-held.ensures.value in
    let s = store_of c.as_slice-held.result.now in
    record {
      value = λ next. ap (λ x. go_round at (kept W es) next (seen_exit x) M0) c.in-Went.is
          ∙ (ap (λ z. clauses W Keep at es z (next S) M0) (sym held) ∙ clauses_then W Keep at es s (next S) M0 K c.in_ok-clauses_hold-in-Went.ensures.value);
    }

pub returns-in_err-clauses_hold-in-Continued : goal.returns-in_err-clauses_hold-in-Continued
returns-in_err-clauses_hold-in-Continued c =
    let L = c.args.program.now.declared.limit in
    let types = map seen_alias c.args.program.now.declared.types in
    let W = clause_setting here (Some L) types in
    let at = c.args.at in
    let es = seen_exprs c.args.invariants.now in
    let M0 = meter_of c.args.meter.now in
    let K = meter_of c.clauses_hold-in-Continued.new.meter in
    let S = store_of c.in-Continued.next.items in
    let held = ap store_of c.as_slice-held-in-Continued.ensures.value in
    let s = store_of c.as_slice-held-in-Continued.result.now in
    let e = c.in_err-clauses_hold-in-Continued.field-0.0 in
    let r = c.from_residual-in_err-clauses_hold-in-Continued.result in
    record {
      value = round_refused L types at es (seen_exit c.args.exit) M0 K e r (λ none next. ap (λ x. go_round at (kept W es) next (seen_exit x) M0) c.in-Continued.is
          ∙ (ap (λ z. clauses W Keep c.in-Continued.place es z (next S) M0) (sym held) ∙ clauses_stops W Keep c.in-Continued.place es s (next S) M0 K e c.in_err-clauses_hold-in-Continued.ensures.value none)) c.from_residual-in_err-clauses_hold-in-Continued.ensures.1;
    }

pub returns-in_ok-clauses_hold-in-Continued : goal.returns-in_ok-clauses_hold-in-Continued
returns-in_ok-clauses_hold-in-Continued c =
    let L = c.args.program.now.declared.limit in
    let types = map seen_alias c.args.program.now.declared.types in
    let W = clause_setting here (Some L) types in
    let at = c.args.at in
    let es = seen_exprs c.args.invariants.now in
    let M0 = meter_of c.args.meter.now in
    let K = meter_of c.clauses_hold-in-Continued.new.meter in
    let S = store_of c.in-Continued.next.items in
    let held = ap store_of c.as_slice-held-in-Continued.ensures.value in
    let s = store_of c.as_slice-held-in-Continued.result.now in
    record {
      value = λ next. ap (λ x. go_round at (kept W es) next (seen_exit x) M0) c.in-Continued.is
          ∙ (ap (λ z. clauses W Keep c.in-Continued.place es z (next S) M0) (sym held) ∙ clauses_then W Keep c.in-Continued.place es s (next S) M0 K c.in_ok-clauses_hold-in-Continued.ensures.value);
    }
