use Rattle.std.proofs.Common.{◌+◌, Some, length, map, refl, suc, true}
use Rattle.wy_core.specs.CoreSeen.{seen_alias, seen_ty}
use Rattle.wy_value.specs.Seen.{seen}
use Rattle.wy_sem.specs.TypeTests.{tests}
use Rattle.wy_eval_exprs.specs.Outcomes.{itself, meter_of}
use Rattle.wy_eval_exprs.specs.Settings.{here}
use Rattle.wy_eval_exprs.proofs.StepLemmas.{gives_as}
use Rattle.wy_eval.proofs.GivenLemmas.{deep_as}
use Rattle.wy_eval.proofs.giving.tested.Goals as goal

pub returns : goal.returns
returns c =
    let L = c.args.program.now.declared.limit in
    let all = c.args.program.now.declared.types in
    let types = map seen_alias all in
    let T = seen_ty c.args.ty.now in
    let D = seen c.args.value.now in
    let M0 = meter_of c.args.meter.now in
    let n = c.len-bare.result in
    record {
      value = gives_as itself (tests here (Some L) types (suc (length types)) true T D M0) (tests here (Some L) types (n + 1) true T D M0) c.type_test.result (meter_of c.type_test.new.meter) (deep_as L all n (n + 1) T D M0 c.len-bare.ensures refl) c.type_test.ensures.value;
    }
