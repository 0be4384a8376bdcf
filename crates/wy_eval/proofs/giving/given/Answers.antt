use Rattle.std.proofs.Common.{Some, map}
use Rattle.wy_core.specs.CoreSeen.{seen_alias, seen_ty}
use Rattle.wy_value.specs.Seen.{seen}
use Rattle.wy_sem.specs.Evaluation.{owed_member}
use Rattle.wy_sem.specs.Meter.{check}
use Rattle.wy_term.specs.declared.cond.CondKind.TheVariants.{Member}
use Rattle.wy_eval_exprs.specs.Outcomes.{itself, meter_of}
use Rattle.wy_eval_exprs.specs.Settings.{here}
use Rattle.wy_eval_exprs.proofs.StepLemmas.{done, then_gives, then_stops}
use Rattle.wy_eval.proofs.giving.given.Goals as goal

pub returns-in_err-within : goal.returns-in_err-within
returns-in_err-within c =
    let L = c.args.program.now.declared.limit in
    let all = c.args.program.now.declared.types in
    let types = map seen_alias all in
    let T = seen_ty c.args.ty.now in
    let D = seen c.args.value.now in
    let M0 = meter_of c.args.meter.now in
    let K = meter_of c.owed_member.new.meter in
    record {
      value = then_stops itself (owed_member here (Some L) types T D M0) (λ b. check b Member c.args.at done) K c.in_err-within.field-0.0 c.from_residual.result c.in_err-within.ensures.value c.from_residual.ensures.1;
    }

pub returns : goal.returns
returns c =
    let L = c.args.program.now.declared.limit in
    let all = c.args.program.now.declared.types in
    let types = map seen_alias all in
    let T = seen_ty c.args.ty.now in
    let D = seen c.args.value.now in
    let M0 = meter_of c.args.meter.now in
    let K = meter_of c.owed_member.new.meter in
    let b = c.in_ok-within.within in
    record {
      value = then_gives itself (owed_member here (Some L) types T D M0) (λ b. check b Member c.args.at done) b K c.check.result K c.in_ok-within.ensures.value (c.check.ensures.value K);
    }
