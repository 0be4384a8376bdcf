use Rattle.std.proofs.Common.{drop}
use Rattle.wy_eval_exprs.specs.Outcomes.{meter_of}
use Rattle.wy_eval.proofs.TextLemmas.{TextLeft}
use Rattle.wy_eval.proofs.printing.text_of.Given as goal

abbrev pub invariant-loop-code : goal.invariant-loop-code
invariant-loop-code l = TextLeft l.limit l.at l.codes (meter_of l.fn.meter) l.bytes.items (meter_of l.meter) (drop l.code-index l.codes)
