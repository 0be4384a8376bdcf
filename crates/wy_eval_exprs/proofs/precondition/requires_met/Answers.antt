use Rattle.std.proofs.Common.{Some, map, refl, ap, ◌∙◌}
use Rattle.std.proofs.lemmas.Result.{IfOk-from_err}
use Rattle.wy_core.specs.CoreSeen.{seen_alias, seen_exprs, seen_routine}
use Rattle.wy_value.specs.Seen.{seen}
use Rattle.wy_sem.specs.Meter.{Done}
use Rattle.wy_sem.specs.Precondition as spec
use Rattle.wy_sem.specs.TypeTests.{clause_setting}
use Rattle.wy_eval_exprs.specs.Outcomes.{meter_of}
use Rattle.wy_eval_exprs.specs.Scopes.{store_of}
use Rattle.wy_eval_exprs.specs.Settings.{here}
use Rattle.wy_eval_exprs.proofs.StepLemmas.{refused}
use Rattle.wy_eval_exprs.specs.Verdicts.{requires_verdict, verdict_of}
use Rattle.wy_eval_exprs.proofs.BeginLemmas.{after_types, required}
use Rattle.wy_eval_exprs.proofs.precondition.requires_met.Goals as goal

pub returns-in_err-wrong : goal.returns-in_err-wrong
returns-in_err-wrong c =
    let L = c.args.declared.now.limit in
    let types = map seen_alias c.args.declared.now.types in
    let r = c.args.routine.now in
    let vs = map seen c.args.args.now in
    let cs = c.as_slice-clauses.result.now in
    let s = store_of c.as_slice-store.result.now in
    let M0 = meter_of c.args.meter.now in
    let K = meter_of c.first_not_true.new.meter in
    let held = ap store_of c.as_slice-store.ensures.value ∙ c.in_ok-store.ensures.value in
    let begun = required L types r c.as_slice-params.result.now c.as_slice-variables.result.now cs vs s M0 c.as_slice-params.ensures c.as_slice-variables.ensures c.as_slice-clauses.ensures held in
    let O = after_types L types (seen_routine r) vs M0 in
    let V = spec.requires_met (clause_setting here (Some L) types) (seen_exprs cs) s 1 M0 in
    let r2 = c.from_residual-in_err-wrong.result in
    record {
      value = refused verdict_of O K c.in_err-wrong.field-0.0 r2 (λ none. begun ∙ c.in_err-wrong.ensures.value none) c.from_residual-in_err-wrong.ensures.1;
      verdict = IfOk-from_err r2 _ c.from_residual-in_err-wrong.ensures.0;
    }

pub returns-in-Some : goal.returns-in-Some
returns-in-Some c =
    let L = c.args.declared.now.limit in
    let types = map seen_alias c.args.declared.now.types in
    let r = c.args.routine.now in
    let vs = map seen c.args.args.now in
    let cs = c.as_slice-clauses.result.now in
    let s = store_of c.as_slice-store.result.now in
    let M0 = meter_of c.args.meter.now in
    let K = meter_of c.first_not_true.new.meter in
    let held = ap store_of c.as_slice-store.ensures.value ∙ c.in_ok-store.ensures.value in
    let begun = required L types r c.as_slice-params.result.now c.as_slice-variables.result.now cs vs s M0 c.as_slice-params.ensures c.as_slice-variables.ensures c.as_slice-clauses.ensures held in
    let O = after_types L types (seen_routine r) vs M0 in
    let V = spec.requires_met (clause_setting here (Some L) types) (seen_exprs cs) s 1 M0 in
    record { value = begun ∙ (c.in_ok-wrong.ensures.value ∙ ap (λ o. Done (requires_verdict o) K) c.in-Some.is); verdict = refl }

pub returns : goal.returns
returns c =
    let L = c.args.declared.now.limit in
    let types = map seen_alias c.args.declared.now.types in
    let r = c.args.routine.now in
    let vs = map seen c.args.args.now in
    let cs = c.as_slice-clauses.result.now in
    let s = store_of c.as_slice-store.result.now in
    let M0 = meter_of c.args.meter.now in
    let K = meter_of c.first_not_true.new.meter in
    let held = ap store_of c.as_slice-store.ensures.value ∙ c.in_ok-store.ensures.value in
    let begun = required L types r c.as_slice-params.result.now c.as_slice-variables.result.now cs vs s M0 c.as_slice-params.ensures c.as_slice-variables.ensures c.as_slice-clauses.ensures held in
    let O = after_types L types (seen_routine r) vs M0 in
    let V = spec.requires_met (clause_setting here (Some L) types) (seen_exprs cs) s 1 M0 in
    record { value = begun ∙ (c.in_ok-wrong.ensures.value ∙ ap (λ o. Done (requires_verdict o) K) c.in-None.is); verdict = refl }
