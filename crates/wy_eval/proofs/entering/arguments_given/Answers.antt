use Rattle.std.proofs.Common.{◌≡◌, ◌+◌, ◌<◌, ◌≤◌, length, get_or, map, Some, refl, ap, subst, arith}
use Rattle.wy_core.specs.CoreSeen.{seen_alias, seen_param}
use Rattle.wy_value.specs.Seen.{seen}
use Rattle.wy_sem.specs.Evaluation.{arguments, owed_member}
use Rattle.wy_eval_exprs.specs.Outcomes.{meter_of}
use Rattle.wy_eval_exprs.specs.Settings.{here}
use Rattle.wy_eval.proofs.EntryLemmas.{arguments_end, arguments_short, arguments_stop, arguments_turn, goes_refused}
use Rattle.wy_eval.proofs.entering.arguments_given.Goals as goal

pub loop-param-init : goal.loop-param-init
loop-param-init c = record { place = refl; left = λ next. refl }

pub returns-then-number-args : goal.returns-then-number-args
returns-then-number-args c =
    let owed = owed_member here (Some c.args.program.now.declared.limit) (map seen_alias c.args.program.now.declared.types) in
    let at = c.args.at in
    let ps = c.args.params.now in
    let vs = c.args.args.now in
    let M0 = meter_of c.args.meter.now in
    let N = meter_of c.loop-param.meter in
    let i = c.loop-param.param-index in
    let place : c.loop-param.number ≡ i = c.loop-param.invariant.place in
    let past : length vs ≤ i = omega arith in
    record { value = arguments_short owed at ps vs M0 i N past c.loop-param.invariant.left }

pub returns-in_err-given : goal.returns-in_err-given
returns-in_err-given c =
    let owed = owed_member here (Some c.args.program.now.declared.limit) (map seen_alias c.args.program.now.declared.types) in
    let at = c.args.at in
    let ps = c.args.params.now in
    let vs = c.args.args.now in
    let M0 = meter_of c.args.meter.now in
    let N = meter_of c.loop-param.meter in
    let i = c.loop-param.param-index in
    let place : c.loop-param.number ≡ i = c.loop-param.invariant.place in
    let K = meter_of c.given.new.meter in
    let p = c.param-item.result in
    let v = c.index-args-number.result in
    let within : i < length vs = omega arith in
    let iv = subst (λ k. v ≡ get_or vs k v) place c.index-args-number.is in
    let e = c.in_err-given.field-0.0 in
    record {
      value = goes_refused (arguments owed at (map seen_param ps) (map seen vs)) M0 K e c.from_residual.result
          (arguments_stop owed at ps vs M0 i p v N K e c.loop-param-test.true c.param-item.is within iv c.in_err-given.ensures.value c.loop-param.invariant.left) c.from_residual.ensures.1;
    }

pub loop-param-preserved : goal.loop-param-preserved
loop-param-preserved c =
    let owed = owed_member here (Some c.args.program.now.declared.limit) (map seen_alias c.args.program.now.declared.types) in
    let at = c.args.at in
    let ps = c.args.params.now in
    let vs = c.args.args.now in
    let M0 = meter_of c.args.meter.now in
    let N = meter_of c.loop-param.meter in
    let i = c.loop-param.param-index in
    let place : c.loop-param.number ≡ i = c.loop-param.invariant.place in
    let K = meter_of c.given.new.meter in
    let p = c.param-item.result in
    let v = c.index-args-number.result in
    let within : i < length vs = omega arith in
    let iv = subst (λ k. v ≡ get_or vs k v) place c.index-args-number.is in
    record {
      place = ap (λ n. n + 1) place;
      left = arguments_turn owed at ps vs M0 i p v N K c.loop-param-test.true c.param-item.is within iv c.in_ok-given.ensures.value c.loop-param.invariant.left;
    }

pub returns : goal.returns
returns c =
    let owed = owed_member here (Some c.args.program.now.declared.limit) (map seen_alias c.args.program.now.declared.types) in
    let at = c.args.at in
    let ps = c.args.params.now in
    let vs = c.args.args.now in
    let M0 = meter_of c.args.meter.now in
    let N = meter_of c.loop-param.meter in
    let i = c.loop-param.param-index in
    let place : c.loop-param.number ≡ i = c.loop-param.invariant.place in
    record { value = arguments_end owed at ps vs M0 i N c.loop-param-test.false c.loop-param.invariant.left }
