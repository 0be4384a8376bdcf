use Rattle.std.proofs.Common.{sym, ◌∙◌, subst, FitsSigned, rules}
use Rattle.std.specs.Int.{w128}
use Rattle.std.proofs.lemmas.Int.{to_z-of_z}
use Rattle.wy_value.specs.Seen.{seen}
use Rattle.wy_eval_exprs.specs.Operands.{items_of}
use Rattle.wy_eval_exprs.specs.Parts.{NumberIn}
use Rattle.wy_eval_exprs.proofs.OperandLemmas.{length_items}
use Rattle.wy_eval_exprs.proofs.IndexLemmas.{index_is}
use Rattle.wy_eval_exprs.proofs.parts.index_of.Goals as goal

pub returns : goal.returns
returns c =
    let f : FitsSigned w128 c.in_ok-number.number = search rules in
    record {
      value = index_is c.args.at (seen c.args.array.now) (seen c.args.index.now) (items_of c.in_ok-items.items.now) c.in_ok-number.number c.len.result c.number_in.result c.in_ok-items.ensures.value c.in_ok-number.ensures.value
          (c.len.ensures ∙ sym (length_items c.in_ok-items.items.now))
          (subst (λ z. NumberIn c.args.at z c.len.result c.number_in.result) (to_z-of_z w128 c.in_ok-number.number f) c.number_in.ensures.value);
    }
