use Rattle.std.proofs.Common.{rules, codes}
use Rattle.wy_data.specs.scan.Front.{IsBehind}
use Rattle.wy_cert.proofs.FileLemmas.{condition_answer}
use Rattle.wy_cert.proofs.read.condition.Goals as goal

pub returns : goal.returns
returns c =
    let opens : IsBehind (codes "cond ") c.args.line.now c.in-Some.number.now = search rules in
    record { value = condition_answer c.args.line.now c.in-Some.number.now c.last_place.result opens c.last_place.ensures.value }
