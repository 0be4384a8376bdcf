use Rattle.std.proofs.Common.{◌≡◌, sym, ap, ◌∙◌, subst, FitsSigned, rules, to_z, of_z}
use Rattle.std.specs.Int.{w128}
use Rattle.std.proofs.lemmas.Int.{to_z-of_z}
use Rattle.wy_value.specs.Seen.{seen}
use Rattle.wy_sem.specs.Operations as spec
use Rattle.wy_eval_exprs.specs.Outcomes.{stopped}
use Rattle.wy_eval_exprs.specs.Parts.{is_length}
use Rattle.wy_eval_exprs.proofs.OperandLemmas.{refused}
use Rattle.wy_eval_exprs.proofs.IndexLemmas.{repeated_is, repeated_refused}
use Rattle.wy_eval_exprs.proofs.parts.repeated.Goals as goal

pub returns-in_err-times : goal.returns-in_err-times
returns-in_err-times c =
    let f : FitsSigned w128 c.in_ok-number.number = search rules in
    let z = c.in_ok-number.number in
    let e = c.in_err-times.field-0.0 in
    record {
      value = λ m. refused seen (spec.repeated c.args.at (seen c.args.item.now) (seen c.args.count.now) m) m e c.from_residual-in_err-times.result
          (λ none. repeated_refused c.args.at (seen c.args.item.now) (seen c.args.count.now) z m c.in_ok-number.ensures.value (ap is_length (sym (to_z-of_z w128 z f)) ∙ c.in_err-times.ensures.value.1)
          ∙ sym (ap (λ g. stopped g m) c.in_err-times.ensures.value.0)) c.from_residual-in_err-times.ensures.1;
    }

pub returns : goal.returns
returns c =
    let f : FitsSigned w128 c.in_ok-number.number = search rules in
    let z = c.in_ok-number.number in
    record {
      value = λ m. repeated_is c.args.at (seen c.args.item.now) (seen c.args.count.now) z c.in_ok-times.times c.in_ok-items.items m c.in_ok-number.ensures.value
          (sym (to_z-of_z w128 z f) ∙ c.in_ok-times.ensures.value.0) c.in_ok-times.ensures.value.1 c.in_ok-items.ensures.value;
    }
