use Rattle.std.proofs.Common.{◌≡◌, sym, ap, ◌∙◌, to_z, of_z, FitsSigned, rules}
use Rattle.std.specs.Int.{w128}
use Rattle.std.proofs.lemmas.Int.{to_z-of_z}
use Rattle.wy_value.specs.Datum.{Whole}
use Rattle.wy_value.specs.Seen.{seen}
use Rattle.wy_value.proofs.SeenLemmas.{seen_int}
use Rattle.wy_sem.specs.Operations as spec
use Rattle.wy_eval_exprs.specs.Operands.{computed as spec_computed}
use Rattle.wy_eval_exprs.proofs.OperandLemmas.{gives_as}
use Rattle.wy_eval_exprs.proofs.operators.on_number.Goals as goal

pub returns-in-Int : goal.returns-in-Int
returns-in-Int c =
    let at = c.args.at in
    let next = spec_computed c.args.op at in
    let x = c.args.first in
    let y = c.in-Int.number in
    let f : FitsSigned w128 y = search rules in
    let ex : to_z w128 (of_z w128 x) ≡ x = to_z-of_z w128 x c.ranges.first in
    let ey : to_z w128 (of_z w128 y) ≡ y = to_z-of_z w128 y f in
    record {
      value = λ m. gives_as seen (spec.numbers at (Whole x) (seen c.args.right.now) next m) (next (to_z w128 (of_z w128 x)) (to_z w128 (of_z w128 y)) m) c.computed.result m
          (ap (λ d. spec.numbers at (Whole x) d next m) (ap seen c.in-Int.is ∙ seen_int y) ∙ (ap (λ z. next z y m) (sym ex) ∙ ap (λ z. next (to_z w128 (of_z w128 x)) z m) (sym ey)))
          (c.computed.ensures.value m);
    }
