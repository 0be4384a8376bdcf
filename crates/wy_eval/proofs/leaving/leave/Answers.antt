use Rattle.std.proofs.Common.{map, ap, ◌∙◌}
use Rattle.wy_core.specs.CoreSeen.{seen_alias}
use Rattle.wy_value.specs.Seen.{seen}
use Rattle.wy_eval_exprs.specs.Operands.{seen_option}
use Rattle.wy_eval_exprs.specs.Outcomes.{meter_of}
use Rattle.wy_eval_exprs.specs.Scopes.{store_of}
use Rattle.wy_eval_exprs.proofs.StepLemmas.{refused}
use Rattle.wy_eval.specs.Exits.{gave}
use Rattle.wy_eval.proofs.LeaveLemmas.{leave_done, leave_none, leave_none_stops, leave_refused, leave_stops, left}
use Rattle.wy_eval.proofs.leaving.leave.Goals as goal

pub returns-in_err-clauses_hold-in-None-result : goal.returns-in_err-clauses_hold-in-None-result
returns-in_err-clauses_hold-in-None-result c =
    let L = c.args.program.now.declared.limit in
    let types = map seen_alias c.args.program.now.declared.types in
    let r = c.args.routine.now in
    let ts = c.args.types.now in
    let en = store_of c.args.entry.now in
    let at = c.args.at in
    let M0 = meter_of c.args.meter.now in
    let O = left L types r ts en at (seen_option c.args.value) M0 in
    let cs = c.as_slice-clauses.result.now in
    let same = c.as_slice-clauses.ensures in
    let seen_as = ap (λ v. left L types r ts en at (seen_option v) M0) c.in-None.is in
    let K = meter_of c.clauses_hold.new.meter in
    let e = c.in_err-clauses_hold-in-None-result.field-0.0 in
    record {
      value = refused gave O K e c.from_residual.result (λ none. seen_as ∙ leave_none_stops L types r ts en at cs M0 K e c.in-None-result.is same c.in_err-clauses_hold-in-None-result.ensures.value none) c.from_residual.ensures.1;
    }

pub returns-in_ok-clauses_hold-in-None-result : goal.returns-in_ok-clauses_hold-in-None-result
returns-in_ok-clauses_hold-in-None-result c =
    let L = c.args.program.now.declared.limit in
    let types = map seen_alias c.args.program.now.declared.types in
    let r = c.args.routine.now in
    let ts = c.args.types.now in
    let en = store_of c.args.entry.now in
    let at = c.args.at in
    let M0 = meter_of c.args.meter.now in
    let O = left L types r ts en at (seen_option c.args.value) M0 in
    let cs = c.as_slice-clauses.result.now in
    let same = c.as_slice-clauses.ensures in
    let seen_as = ap (λ v. left L types r ts en at (seen_option v) M0) c.in-None.is in
    let K = meter_of c.clauses_hold.new.meter in
    record { value = seen_as ∙ leave_none L types r ts en at cs M0 K c.in-None-result.is same c.in_ok-clauses_hold-in-None-result.ensures.value }

pub returns-in_err-given-in-Some-result-2 : goal.returns-in_err-given-in-Some-result-2
returns-in_err-given-in-Some-result-2 c =
    let L = c.args.program.now.declared.limit in
    let types = map seen_alias c.args.program.now.declared.types in
    let r = c.args.routine.now in
    let ts = c.args.types.now in
    let en = store_of c.args.entry.now in
    let at = c.args.at in
    let M0 = meter_of c.args.meter.now in
    let O = left L types r ts en at (seen_option c.args.value) M0 in
    let cs = c.as_slice-clauses.result.now in
    let same = c.as_slice-clauses.ensures in
    let seen_as = ap (λ v. left L types r ts en at (seen_option v) M0) c.in-Some.is in
    let o = c.in-Some-result-2.output in
    let d = seen c.in-Some.value in
    let is = c.in-Some-result-2.is in
    let K = meter_of c.given.new.meter in
    let e = c.in_err-given-in-Some-result-2.field-0.0 in
    let f = c.from_residual-in_err-given-in-Some-result-2.result in
    record { value = refused gave O K e f (λ none. seen_as ∙ leave_refused L types r ts en at o d M0 K e is c.in_err-given-in-Some-result-2.ensures.value none) c.from_residual-in_err-given-in-Some-result-2.ensures.1 }

pub returns-in_err-clauses_hold-in-Some-result-2 : goal.returns-in_err-clauses_hold-in-Some-result-2
returns-in_err-clauses_hold-in-Some-result-2 c =
    let L = c.args.program.now.declared.limit in
    let types = map seen_alias c.args.program.now.declared.types in
    let r = c.args.routine.now in
    let ts = c.args.types.now in
    let en = store_of c.args.entry.now in
    let at = c.args.at in
    let M0 = meter_of c.args.meter.now in
    let O = left L types r ts en at (seen_option c.args.value) M0 in
    let cs = c.as_slice-clauses.result.now in
    let same = c.as_slice-clauses.ensures in
    let seen_as = ap (λ v. left L types r ts en at (seen_option v) M0) c.in-Some.is in
    let o = c.in-Some-result-2.output in
    let d = seen c.in-Some.value in
    let is = c.in-Some-result-2.is in
    let K = meter_of c.given.new.meter in
    let s = store_of c.as_slice-store.result.now in
    let J = meter_of c.clauses_hold-in-Some-result-2.new.meter in
    let held = ap store_of c.as_slice-store.ensures.value ∙ c.in_ok-store-in-Some-result-2.ensures.value in
    let good = c.in_ok-given-in-Some-result-2.ensures.value in
    let e = c.in_err-clauses_hold-in-Some-result-2.field-0.0 in
    let f = c.from_residual-in_err-clauses_hold-in-Some-result-2.result in
    record {
      value = refused gave O J e f (λ none. seen_as ∙ leave_stops L types r ts en at o d cs s M0 K J e is good same held c.in_err-clauses_hold-in-Some-result-2.ensures.value none) c.from_residual-in_err-clauses_hold-in-Some-result-2.ensures.1;
    }

pub returns-in_ok-clauses_hold-in-Some-result-2 : goal.returns-in_ok-clauses_hold-in-Some-result-2
returns-in_ok-clauses_hold-in-Some-result-2 c =
    let L = c.args.program.now.declared.limit in
    let types = map seen_alias c.args.program.now.declared.types in
    let r = c.args.routine.now in
    let ts = c.args.types.now in
    let en = store_of c.args.entry.now in
    let at = c.args.at in
    let M0 = meter_of c.args.meter.now in
    let O = left L types r ts en at (seen_option c.args.value) M0 in
    let cs = c.as_slice-clauses.result.now in
    let same = c.as_slice-clauses.ensures in
    let seen_as = ap (λ v. left L types r ts en at (seen_option v) M0) c.in-Some.is in
    let o = c.in-Some-result-2.output in
    let d = seen c.in-Some.value in
    let is = c.in-Some-result-2.is in
    let K = meter_of c.given.new.meter in
    let s = store_of c.as_slice-store.result.now in
    let J = meter_of c.clauses_hold-in-Some-result-2.new.meter in
    let held = ap store_of c.as_slice-store.ensures.value ∙ c.in_ok-store-in-Some-result-2.ensures.value in
    let good = c.in_ok-given-in-Some-result-2.ensures.value in
    record { value = seen_as ∙ leave_done L types r ts en at o d cs s M0 K J is good same held c.in_ok-clauses_hold-in-Some-result-2.ensures.value }
