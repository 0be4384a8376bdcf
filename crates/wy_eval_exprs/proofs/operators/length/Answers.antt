use Rattle.std.proofs.Common.{sym, ap, ◌∙◌, to_z}
use Rattle.std.specs.Prelude.{pos}
use Rattle.std.specs.Int.{w128}
use Rattle.wy_value.specs.Datum.{Whole}
use Rattle.wy_value.specs.Values.{length_of}
use Rattle.wy_value.specs.Seen.{seen}
use Rattle.wy_value.proofs.SeenLemmas.{seen_int}
use Rattle.wy_sem.specs.Meter.{Done}
use Rattle.wy_eval_exprs.specs.Operands.{items_of}
use Rattle.wy_eval_exprs.proofs.NumberLemmas.{count_is}
use Rattle.wy_eval_exprs.proofs.OperandLemmas.{are_the_items, length_items}
use Rattle.wy_eval_exprs.proofs.operators.length.Goals as goal

pub returns : goal.returns
returns c = record {
  value = λ m. are_the_items c.args.at (seen c.args.value.now) (λ ds. Done (Whole (pos (length_of ds)))) m (items_of c.in_ok-items.items.now) c.in_ok-items.ensures.value
      ∙ ap (λ d. Done d m)
      (ap (λ n. Whole (pos n)) (length_items c.in_ok-items.items.now ∙ sym c.len-count.ensures)
      ∙ (ap (λ z. Whole z) (sym (count_is c.len-count.result c.len-count.type_inv)) ∙ sym (seen_int (to_z w128 c.len-count.result))));
}
