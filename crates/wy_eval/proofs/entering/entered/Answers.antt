use Rattle.std.proofs.Common.{◌≡◌, length, map, Option, Some, ap, ◌∙◌, arith}
use Rattle.wy_core.specs.CoreSeen.{seen_alias, seen_exprs, seen_routine}
use Rattle.wy_value.specs.Datum.{Datum}
use Rattle.wy_value.specs.Seen.{seen}
use Rattle.wy_term.specs.declared.cond.CondKind.TheVariants.{Requires}
use Rattle.wy_sem.specs.Meter.{Run}
use Rattle.wy_sem.specs.TypeTests.{clause_setting}
use Rattle.wy_eval_exprs.specs.Outcomes.{meter_of}
use Rattle.wy_eval_exprs.specs.Scopes.{store_of}
use Rattle.wy_eval_exprs.specs.Settings.{here}
use Rattle.wy_eval.specs.Entries.{entering}
use Rattle.wy_eval.proofs.EntryLemmas.{goes_refused}
use Rattle.wy_eval.proofs.FollowLemmas.{clauses_stops, clauses_then}
use Rattle.wy_eval.proofs.LeaveLemmas.{counted, required, required_here}
use Rattle.wy_eval.proofs.entering.entered.Goals as goal

pub returns-in_err-clauses_hold-clause-value : goal.returns-in_err-clauses_hold-clause-value
returns-in_err-clauses_hold-clause-value c =
    let L = c.args.program.now.declared.limit in
    let types = map seen_alias c.args.program.now.declared.types in
    let r = c.args.routine.now in
    let vs = c.args.args.now in
    let at = c.args.at in
    let M0 = meter_of c.args.meter.now in
    let ps = c.as_slice-params.result.now in
    let names = c.as_slice-variables.result.now in
    let cs = c.as_slice-clauses.result.now in
    let s = store_of c.as_slice-store.result.now in
    let K = meter_of c.arguments_given.new.meter in
    let J = meter_of c.clauses_hold.new.meter in
    let W = clause_setting here (Some L) types in
    let held = ap store_of c.as_slice-store.ensures.value ∙ c.in_ok-entry.ensures.value in
    let same : length vs ≡ length ps = omega arith in
    let begun = λ (next : Run (Option Datum)). counted L types r at ps vs next M0 c.as_slice-params.ensures same
    ∙ (c.in_ok-arguments_given.ensures.value (required L types r at (map seen vs) next) ∙ required_here L types r at ps names cs (map seen vs) s next K c.as_slice-params.ensures c.as_slice-variables.ensures c.as_slice-clauses.ensures held) in
    let e = c.in_err-clauses_hold.field-0.0 in
    goes_refused (entering L types (seen_routine r) at (map seen vs)) M0 J e c.from_residual-in_err-clauses_hold.result
    (λ none next. begun next ∙ clauses_stops W Requires at (seen_exprs cs) s next K J e c.in_err-clauses_hold.ensures.value none) c.from_residual-in_err-clauses_hold.ensures.1

pub returns-clause-value : goal.returns-clause-value
returns-clause-value c =
    let L = c.args.program.now.declared.limit in
    let types = map seen_alias c.args.program.now.declared.types in
    let r = c.args.routine.now in
    let vs = c.args.args.now in
    let at = c.args.at in
    let M0 = meter_of c.args.meter.now in
    let ps = c.as_slice-params.result.now in
    let names = c.as_slice-variables.result.now in
    let cs = c.as_slice-clauses.result.now in
    let s = store_of c.as_slice-store.result.now in
    let K = meter_of c.arguments_given.new.meter in
    let J = meter_of c.clauses_hold.new.meter in
    let W = clause_setting here (Some L) types in
    let held = ap store_of c.as_slice-store.ensures.value ∙ c.in_ok-entry.ensures.value in
    let same : length vs ≡ length ps = omega arith in
    let begun = λ (next : Run (Option Datum)). counted L types r at ps vs next M0 c.as_slice-params.ensures same
    ∙ (c.in_ok-arguments_given.ensures.value (required L types r at (map seen vs) next) ∙ required_here L types r at ps names cs (map seen vs) s next K c.as_slice-params.ensures c.as_slice-variables.ensures c.as_slice-clauses.ensures held) in
    λ next. begun next ∙ clauses_then W Requires at (seen_exprs cs) s next K J c.in_ok-clauses_hold.ensures.value
