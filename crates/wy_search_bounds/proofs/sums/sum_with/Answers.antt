use Rattle.std.proofs.Common.{ℕ, Option, List, subst, ◌∙◌, length, map, ap, rules, sym}
use Rattle.std.specs.Prelude.{option_map}
use Rattle.std.proofs.lemmas.List.{length-map}
use Rattle.wy_lin.specs.Seen.{linear_form}
use Rattle.wy_search_bounds.specs.Seen.{seen_takings, multipliers_of, AreMultipliers}
use Rattle.wy_search_bounds.proofs.SumLemmas.{sum_none, multipliers_before, forms_count}
use Rattle.wy_search_bounds.proofs.sums.sum_with.Goals as goal

pub returns-in_default : goal.returns-in_default
returns-in_default c = sum_none (linear_form c.args.form.now) (seen_takings c.args.takings.now) c.args.k (search rules)

pub combine-requires : goal.combine-requires
combine-requires c =
    let ts = c.args.takings.now in
    let f = linear_form c.args.form.now in
    let made = subst (λ (o : Option (List (ℕ × ℕ))). AreMultipliers o (multipliers_of c.args.k (seen_takings ts))) (ap (option_map (λ v. v.items)) c.in-Some.is) c.in_ok-multipliers.ensures in
    multipliers_before c.args.k (length c.deref.result.now) ts c.deref-2.result.now (c.deref-2.ensures.value ∙ made.0)
    (forms_count f ts (length c.deref.result.now) (map linear_form c.deref.result.now) (ap (map linear_form) c.deref.ensures.value ∙ c.in_ok-forms.ensures) (sym (length-map c.deref.result.now linear_form)))
