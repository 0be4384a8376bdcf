use Rattle.std.proofs.Common.{◌≡◌, ◌+◌, ◌<◌, ◌≤◌, length, get_or, map, refl, sym, ap, ◌∙◌, subst, arith}
use Rattle.wy_core.specs.CoreSeen.{seen_alias, seen_param}
use Rattle.wy_value.specs.Seen.{seen}
use Rattle.wy_sem.specs.Meter.{Done}
use Rattle.wy_sem.specs.Precondition.{TypeFails}
use Rattle.wy_eval_exprs.specs.Outcomes.{meter_of}
use Rattle.wy_eval_exprs.proofs.TestLemmas.{first_refused, types_end, types_fail, types_short, types_stop, types_turn}
use Rattle.wy_eval_exprs.proofs.arguments.first_not_member.Goals as goal

pub loop-param-init : goal.loop-param-init
loop-param-init c = record { place = refl; left = λ next. refl }

pub returns-then-place-args : goal.returns-then-place-args
returns-then-place-args c =
    let L = c.args.declared.now.limit in
    let types = map seen_alias c.args.declared.now.types in
    let ps = c.args.params.now in
    let vs = c.args.args.now in
    let M0 = meter_of c.args.meter.now in
    let N = meter_of c.loop-param.meter in
    let i = c.loop-param.param-index in
    let place : c.loop-param.number ≡ i = c.loop-param.invariant.place in
    let past : length vs ≤ i = omega arith in
    record { value = types_short L types ps vs M0 i N past c.loop-param.invariant.left }

pub returns-in_err-within : goal.returns-in_err-within
returns-in_err-within c =
    let L = c.args.declared.now.limit in
    let types = map seen_alias c.args.declared.now.types in
    let ps = c.args.params.now in
    let vs = c.args.args.now in
    let M0 = meter_of c.args.meter.now in
    let N = meter_of c.loop-param.meter in
    let i = c.loop-param.param-index in
    let place : c.loop-param.number ≡ i = c.loop-param.invariant.place in
    let K = meter_of c.member.new.meter in
    let p = c.param-item.result in
    let v = c.index-args-place.result in
    let within : i < length vs = omega arith in
    let iv = subst (λ k. v ≡ get_or vs k v) place c.index-args-place.is in
    let e = c.in_err-within.field-0.0 in
    record {
      value = first_refused L types (map seen_param ps) (map seen vs) M0 K e c.from_residual.result
          (types_stop L types ps vs M0 i p v N K e c.loop-param-test.true c.param-item.is within iv c.in_err-within.ensures.value c.loop-param.invariant.left) c.from_residual.ensures.1;
    }

pub returns-then-not-within : goal.returns-then-not-within
returns-then-not-within c =
    let L = c.args.declared.now.limit in
    let types = map seen_alias c.args.declared.now.types in
    let ps = c.args.params.now in
    let vs = c.args.args.now in
    let M0 = meter_of c.args.meter.now in
    let N = meter_of c.loop-param.meter in
    let i = c.loop-param.param-index in
    let place : c.loop-param.number ≡ i = c.loop-param.invariant.place in
    let K = meter_of c.member.new.meter in
    let p = c.param-item.result in
    let v = c.index-args-place.result in
    let within : i < length vs = omega arith in
    let iv = subst (λ k. v ≡ get_or vs k v) place c.index-args-place.is in
    let given = c.in_ok-within.ensures.value ∙ ap (λ b. Done b K) c.if-not-within.true in
    record {
      value = λ next. types_fail L types ps vs M0 i p v N K c.loop-param-test.true c.param-item.is within iv given c.loop-param.invariant.left next ∙ ap (λ n. Done (TypeFails (n + 1)) K) (sym place);
    }

pub loop-param-preserved : goal.loop-param-preserved
loop-param-preserved c =
    let L = c.args.declared.now.limit in
    let types = map seen_alias c.args.declared.now.types in
    let ps = c.args.params.now in
    let vs = c.args.args.now in
    let M0 = meter_of c.args.meter.now in
    let N = meter_of c.loop-param.meter in
    let i = c.loop-param.param-index in
    let place : c.loop-param.number ≡ i = c.loop-param.invariant.place in
    let K = meter_of c.member.new.meter in
    let p = c.param-item.result in
    let v = c.index-args-place.result in
    let within : i < length vs = omega arith in
    let iv = subst (λ k. v ≡ get_or vs k v) place c.index-args-place.is in
    let given = c.in_ok-within.ensures.value ∙ ap (λ b. Done b K) c.if-not-within.false in
    record {
      place = ap (λ n. n + 1) place;
      left = types_turn L types ps vs M0 i p v N K c.loop-param-test.true c.param-item.is within iv given c.loop-param.invariant.left;
    }

pub returns : goal.returns
returns c =
    let L = c.args.declared.now.limit in
    let types = map seen_alias c.args.declared.now.types in
    let ps = c.args.params.now in
    let vs = c.args.args.now in
    let M0 = meter_of c.args.meter.now in
    let N = meter_of c.loop-param.meter in
    let i = c.loop-param.param-index in
    let place : c.loop-param.number ≡ i = c.loop-param.invariant.place in
    record { value = types_end L types ps vs M0 i N c.loop-param-test.false c.loop-param.invariant.left }
