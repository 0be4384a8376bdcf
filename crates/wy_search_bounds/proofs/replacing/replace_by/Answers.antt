use Rattle.std.proofs.Common.{◌≡◌, ◌∙◌, List, true, false, eqb, length, sym, ap, rules, vec_len}
use Rattle.std.specs.Prelude.{option_map}
use Rattle.std.proofs.lemmas.Result.{IfOk-weaker}
use Rattle.wy_lin.specs.Seen.{linear_form}
use Rattle.wy_cong.specs.wy_search_spec.Bounds.{takings, replaced_by, by_common}
use Rattle.wy_lin_eliminate.specs.Division.{common}
use Rattle.std.proofs.lemmas.Bool.{eq-eqb}
use Rattle.wy_search_bounds.specs.declared.removal.Taking.{Taking}
use Rattle.wy_search_bounds.specs.Seen.{seen_takings, sum_with}
use Rattle.wy_search_bounds.proofs.SumLemmas.{nothing_taken, replaced_so}
use Rattle.wy_search_bounds.proofs.replacing.replace_by.Goals as goal

pub returns-then-is_empty : goal.returns-then-is_empty
returns-then-is_empty c =
    let f = linear_form c.args.form in
    let ts = c.in_ok-takings.takings.items in
    let none : length ts ≡ 0 = search rules in
    nothing_taken f ts none ∙ ap (replaced_by f) (c.in_ok-takings.ensures ∙ ap (takings c.args.labels.now) c.deref.ensures)

pub returns-in-Some : goal.returns-in-Some
returns-in-Some c =
    let f = linear_form c.args.form in
    let ts = c.in_ok-takings.takings.items in
    let s = linear_form c.in-Some.sum in
    let un : c.is_empty.result ≡ false = search rules in
    let counts : vec_len c.in_ok-takings.takings ≡ length ts = search rules in
    let apart : length ts ≡ 0 → ⊥ = λ none.
    let up : eqb (vec_len c.in_ok-takings.takings) 0 ≡ true = eq-eqb (vec_len c.in_ok-takings.takings) 0 (counts ∙ none) in
    let no : eqb (vec_len c.in_ok-takings.takings) 0 ≡ false = sym c.is_empty.ensures ∙ un in
    cc in
    let so = replaced_so f ts (takings c.args.labels.now f.parts) s (option_map linear_form c.in_ok-sum.field-0) apart
    (c.in_ok-takings.ensures ∙ ap (takings c.args.labels.now) c.deref.ensures)
    (ap (option_map linear_form) (sym c.in-Some.is))
    (c.in_ok-sum.ensures ∙ ap (λ (us : List Taking). sum_with f (seen_takings us) 1) c.deref-2.ensures.value) in
    IfOk-weaker c.by_sum.result _ _ (λ r is. is ∙ (ap (λ (us : List Taking). by_common (sum_with f (seen_takings us) 2) s (common s.parts)) c.deref-in-Some.ensures.value ∙ so)) c.by_sum.ensures
