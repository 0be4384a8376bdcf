use Rattle.std.proofs.Common.{Some}
use Rattle.wy_sem.specs.Evaluation.{text_of}
use Rattle.wy_eval_exprs.specs.Operands.{items_of}
use Rattle.wy_eval_exprs.specs.Outcomes.{meter_of}
use Rattle.wy_eval_exprs.proofs.StepLemmas.{refused}
use Rattle.wy_eval.proofs.TextLemmas.{text_wrong}
use Rattle.wy_eval.proofs.printing.text_of.Goals as goal

pub returns-in_err-byte : goal.returns-in_err-byte
returns-in_err-byte c =
    let L = c.args.limit in
    let all = c.args.codes.now in
    let M0 = meter_of c.args.meter.now in
    let N = meter_of c.loop-code.meter in
    let K = meter_of c.count.new.self in
    let e = c.in_err-byte.field-0.0 in
    record {
      value = refused _ (text_of (Some L) c.args.at (items_of all) M0) K e c.from_residual-in_err-byte.result
          (λ none. text_wrong L c.args.at all M0 c.loop-code.bytes.items N K c.loop-code.code-index c.code-item.result e c.loop-code-test.true c.code-item.is c.in_ok-count.ensures.value c.in_err-byte.ensures.value c.loop-code.invariant)
          c.from_residual-in_err-byte.ensures.1;
    }
