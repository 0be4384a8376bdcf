use Rattle.std.proofs.Common.{◌≡◌, sym, ap, ◌∙◌, to_z, of_z, FitsSigned, rules}
use Rattle.std.specs.Int.{w128}
use Rattle.std.proofs.lemmas.Int.{to_z-of_z}
use Rattle.wy_value.specs.Datum.{Whole}
use Rattle.wy_value.specs.Seen.{seen}
use Rattle.wy_value.proofs.SeenLemmas.{seen_int}
use Rattle.wy_sem.specs.Operations as spec
use Rattle.wy_eval_exprs.specs.Operands.{computed as spec_computed}
use Rattle.wy_eval_exprs.proofs.OperandLemmas.{gives_as}
use Rattle.wy_eval_exprs.proofs.operators.on_numbers.Goals as goal

pub returns-in-Int : goal.returns-in-Int
returns-in-Int c =
    let at = c.args.at in
    let next = spec_computed c.args.op at in
    let right = seen c.args.right.now in
    let x = c.in-Int.number in
    let f : FitsSigned w128 x = search rules in
    let ex : to_z w128 (of_z w128 x) ≡ x = to_z-of_z w128 x f in
    record {
      value = λ m. gives_as seen (spec.numbers at (seen c.args.left.now) right next m) (spec.numbers at (Whole (to_z w128 (of_z w128 x))) right next m) c.on_number.result m
          (ap (λ d. spec.numbers at d right next m) (ap seen c.in-Int.is ∙ (seen_int x ∙ ap (λ z. Whole z) (sym ex))))
          (c.on_number.ensures.value m);
    }
