use Rattle.std.proofs.Common.{◌≡◌, sym, ap, ◌∙◌, to_z, of_z}
use Rattle.std.specs.Int.{w128}
use Rattle.std.proofs.lemmas.Int.{to_z-of_z}
use Rattle.wy_core.specs.declared.expressions.Op.TheVariants as op
use Rattle.wy_value.specs.Seen.{seen}
use Rattle.wy_eval_exprs.specs.Operands.{computed as spec_computed}
use Rattle.wy_eval_exprs.proofs.OperandLemmas.{gives_as}
use Rattle.wy_eval_exprs.proofs.numbers.computed.Goals as goal

pub returns-in-Div : goal.returns-in-Div
returns-in-Div c =
    let at = c.args.at in
    let x = c.args.x in
    let y = c.args.y in
    let ex : to_z w128 (of_z w128 x) ≡ x = to_z-of_z w128 x c.ranges.x in
    let ey : to_z w128 (of_z w128 y) ≡ y = to_z-of_z w128 y c.ranges.y in
    record {
      value = λ m. gives_as seen (spec_computed c.args.op at x y m) (spec_computed op.Div at (to_z w128 (of_z w128 x)) (to_z w128 (of_z w128 y)) m) c.quotient.result m
          (ap (λ o. spec_computed o at x y m) c.in-Div.is ∙ (ap (λ z. spec_computed op.Div at z y m) (sym ex) ∙ ap (λ z. spec_computed op.Div at (to_z w128 (of_z w128 x)) z m) (sym ey)))
          (c.quotient.ensures.value m);
    }

pub returns-in-Mod : goal.returns-in-Mod
returns-in-Mod c =
    let at = c.args.at in
    let x = c.args.x in
    let y = c.args.y in
    let ex : to_z w128 (of_z w128 x) ≡ x = to_z-of_z w128 x c.ranges.x in
    let ey : to_z w128 (of_z w128 y) ≡ y = to_z-of_z w128 y c.ranges.y in
    record {
      value = λ m. gives_as seen (spec_computed c.args.op at x y m) (spec_computed op.Mod at (to_z w128 (of_z w128 x)) (to_z w128 (of_z w128 y)) m) c.remainder.result m
          (ap (λ o. spec_computed o at x y m) c.in-Mod.is ∙ (ap (λ z. spec_computed op.Mod at z y m) (sym ex) ∙ ap (λ z. spec_computed op.Mod at (to_z w128 (of_z w128 x)) z m) (sym ey)))
          (c.remainder.ensures.value m);
    }
