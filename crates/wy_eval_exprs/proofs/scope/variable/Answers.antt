use Rattle.std.proofs.Common.{◌<◌, length, sym, ap, ◌∙◌, arith, rules, FitsSigned}
use Rattle.std.specs.Int.{w128}
use Rattle.std.proofs.lemmas.Int.{to_z-of_z}
use Rattle.wy_value.specs.declared.value.Value.TheVariants as value
use Rattle.wy_value.specs.Seen.{seen}
use Rattle.wy_value.proofs.SeenLemmas.{seen_int}
use Rattle.wy_sem.specs.Meter.{Done}
use Rattle.wy_sem.specs.Operations.{needed}
use Rattle.wy_eval_exprs.proofs.StoreLemmas.{number_seen}
use Rattle.wy_eval_exprs.proofs.scope.variable.Goals as goal

pub returns-in-Some : goal.returns-in-Some
returns-in-Some c =
    let z = c.in-Some.found in
    let f : FitsSigned w128 z = search rules in
    let within : c.args.variable < length c.args.store.now = omega arith in
    let here = number_seen c.args.store.now c.args.over.now c.args.variable z within c.in-Some.ensures.value in
    record { value = λ m. ap (λ o. needed c.args.at o Done m) here ∙ (ap (λ d. Done d m) (sym (seen_int z)) ∙ ap (λ n. Done (seen (value.Int n)) m) (sym (to_z-of_z w128 z f))) }
