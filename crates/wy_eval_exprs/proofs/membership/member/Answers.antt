use Rattle.std.proofs.Common.{◌+◌, false, true, Some, map, refl}
use Rattle.wy_core.specs.CoreSeen.{seen_alias, seen_ty}
use Rattle.wy_value.specs.Seen.{seen}
use Rattle.wy_sem.specs.TypeTests as tests
use Rattle.wy_eval_exprs.specs.Outcomes.{itself, meter_of}
use Rattle.wy_eval_exprs.specs.Settings.{asked_by, here, questions}
use Rattle.wy_eval_exprs.proofs.StepLemmas.{gives_as}
use Rattle.wy_eval_exprs.proofs.VisitLemmas.{member_is}
use Rattle.wy_eval_exprs.proofs.membership.member.Goals as goal

pub returns : goal.returns
returns c =
    let all = c.args.declared.now.types in
    let L = c.args.declared.now.limit in
    let T = seen_ty c.args.ty.now in
    let D = seen c.args.value.now in
    let M0 = meter_of c.args.meter.now in
    let n = c.len-bare.result in
    record {
      value = gives_as itself (tests.member here (Some L) (map seen_alias all) T D M0) (asked_by (questions (map seen_alias all) L (n + 1) false true) n D T M0) c.asked.result (meter_of c.asked.new.meter)
          (member_is all L (n + 1) T D M0 n c.len-bare.ensures refl) c.asked.ensures.value;
    }
