use Rattle.std.proofs.Common.{◌≡◌, ℕ, length, Option, Some, Ok, map, refl, ◌∙◌, subst, arith}
use Rattle.std.proofs.lemmas.Result.{IfOk-from_err}
use Rattle.wy_core.specs.CoreSeen.{seen_alias, seen_param, seen_routine}
use Rattle.wy_value.specs.Seen.{seen}
use Rattle.wy_sem.specs.Precondition as spec
use Rattle.wy_eval_exprs.specs.Outcomes.{meter_of}
use Rattle.wy_eval_exprs.specs.Settings.{here}
use Rattle.wy_eval_exprs.proofs.StepLemmas.{gives_as, refused}
use Rattle.wy_eval_exprs.specs.Verdicts.{FirstOf, verdict_of}
use Rattle.wy_eval_exprs.proofs.BeginLemmas.{after_types, counted, miscounted}
use Rattle.wy_eval_exprs.proofs.precondition.routine_met.Goals as goal

pub returns-then-args-params : goal.returns-then-args-params
returns-then-args-params c =
    let L = c.args.declared.now.limit in
    let types = map seen_alias c.args.declared.now.types in
    let r = c.args.routine.now in
    let vs = c.args.args.now in
    let ps = c.as_slice-params.result.now in
    let M0 = meter_of c.args.meter.now in
    let wrong : length vs ≡ length ps → ⊥ = λ e. absurd (omega arith) in
    record { value = miscounted L types r ps vs M0 c.as_slice-params.ensures wrong; verdict = refl }

pub returns-in_err-wrong : goal.returns-in_err-wrong
returns-in_err-wrong c =
    let L = c.args.declared.now.limit in
    let types = map seen_alias c.args.declared.now.types in
    let r = c.args.routine.now in
    let vs = c.args.args.now in
    let ps = c.as_slice-params.result.now in
    let M0 = meter_of c.args.meter.now in
    let same : length vs ≡ length ps = omega arith in
    let next = after_types L types (seen_routine r) (map seen vs) in
    let begun = counted L types r ps vs M0 c.as_slice-params.ensures same in
    let O = spec.routine_met here (Some L) types (seen_routine r) (map seen vs) M0 in
    let K = meter_of c.first_not_member.new.meter in
    record {
      value = refused verdict_of O K c.in_err-wrong.field-0.0 c.from_residual.result (λ none. begun ∙ c.in_err-wrong.ensures.value none next) c.from_residual.ensures.1;
      verdict = IfOk-from_err c.from_residual.result _ c.from_residual.ensures.0;
    }

pub returns-in-Some : goal.returns-in-Some
returns-in-Some c =
    let L = c.args.declared.now.limit in
    let types = map seen_alias c.args.declared.now.types in
    let r = c.args.routine.now in
    let vs = c.args.args.now in
    let ps = c.as_slice-params.result.now in
    let M0 = meter_of c.args.meter.now in
    let same : length vs ≡ length ps = omega arith in
    let next = after_types L types (seen_routine r) (map seen vs) in
    let begun = counted L types r ps vs M0 c.as_slice-params.ensures same in
    let O = spec.routine_met here (Some L) types (seen_routine r) (map seen vs) M0 in
    let K = meter_of c.first_not_member.new.meter in
    let told = subst (λ (o : Option ℕ). FirstOf L types (map seen_param ps) (map seen vs) M0 (Ok o) K) c.in-Some.is c.in_ok-wrong.ensures.value in
    record { value = begun ∙ told next; verdict = refl }

pub returns-in-None : goal.returns-in-None
returns-in-None c =
    let L = c.args.declared.now.limit in
    let types = map seen_alias c.args.declared.now.types in
    let r = c.args.routine.now in
    let vs = c.args.args.now in
    let ps = c.as_slice-params.result.now in
    let M0 = meter_of c.args.meter.now in
    let same : length vs ≡ length ps = omega arith in
    let next = after_types L types (seen_routine r) (map seen vs) in
    let begun = counted L types r ps vs M0 c.as_slice-params.ensures same in
    let O = spec.routine_met here (Some L) types (seen_routine r) (map seen vs) M0 in
    let K = meter_of c.first_not_member.new.meter in
    let told = subst (λ (o : Option ℕ). FirstOf L types (map seen_param ps) (map seen vs) M0 (Ok o) K) c.in-None.is c.in_ok-wrong.ensures.value in
    record {
      value = gives_as verdict_of O (next K) c.requires_met.result (meter_of c.requires_met.new.meter) (begun ∙ told next) c.requires_met.ensures.value;
      verdict = c.requires_met.ensures.verdict;
    }
