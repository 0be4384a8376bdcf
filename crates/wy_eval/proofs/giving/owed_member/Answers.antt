use Rattle.std.proofs.Common.{Some, map}
use Rattle.wy_core.specs.CoreSeen.{seen_alias, seen_ty}
use Rattle.wy_value.specs.Seen.{seen}
use Rattle.wy_sem.specs.Evaluation.{owed_member}
use Rattle.wy_sem.specs.TypeTests as tests
use Rattle.wy_eval_exprs.specs.Outcomes.{itself, meter_of}
use Rattle.wy_eval_exprs.specs.Settings.{here}
use Rattle.wy_eval_exprs.proofs.StepLemmas.{gives_as}
use Rattle.wy_eval.proofs.GivenLemmas.{not_owed, owed, owed_as_marked}
use Rattle.wy_eval.proofs.giving.owed_member.Goals as goal

pub returns-then-not-owed : goal.returns-then-not-owed
returns-then-not-owed c =
    let L = c.args.program.now.declared.limit in
    let all = c.args.program.now.declared.types in
    let types = map seen_alias all in
    let T = seen_ty c.args.ty.now in
    let D = seen c.args.value.now in
    let M0 = meter_of c.args.meter.now in
    let same = owed_as_marked all c.args.program.now.marks.items c.as_slice-marks.result.now T c.mentions-owed.result c.as_slice-marks.ensures.value c.args.program.now.marked c.mentions-owed.ensures.value in
    record { value = not_owed L types T D M0 c.mentions-owed.result same c.if-not-owed.true }

pub returns : goal.returns
returns c =
    let L = c.args.program.now.declared.limit in
    let all = c.args.program.now.declared.types in
    let types = map seen_alias all in
    let T = seen_ty c.args.ty.now in
    let D = seen c.args.value.now in
    let M0 = meter_of c.args.meter.now in
    let same = owed_as_marked all c.args.program.now.marks.items c.as_slice-marks.result.now T c.mentions-owed.result c.as_slice-marks.ensures.value c.args.program.now.marked c.mentions-owed.ensures.value in
    record {
      value = gives_as itself (owed_member here (Some L) types T D M0) (tests.member here (Some L) types T D M0) c.member.result (meter_of c.member.new.meter) (owed L types T D M0 c.mentions-owed.result same c.if-not-owed.false) c.member.ensures.value;
    }
