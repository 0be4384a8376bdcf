use Rattle.std.proofs.Common.{◌≡◌, ◌∙◌, ℤ, ℕ, List, Some, None, true, false, map, ap, rules, subst, sym}
use Rattle.wy_search_bounds.proofs.products.varying_form.Goals as goal
use Rattle.wy_search_bounds.specs.Bounds.{IsConstant}
use Rattle.wy_lin.specs.Seen.{seen_form, seen_part}
use Rattle.wy_lin.specs.TermForm.{form_of}
use Rattle.wy_term.specs.Nodes.{tree_at}
use Rattle.wy_cong.specs.wy_check_spec.valid.Sums.{all_zero}

pub returns-then-all_zero-clause-value : goal.returns-then-all_zero-clause-value
returns-then-all_zero-clause-value c =
    let at = tree_at c.args.terms.now in
    let is : form_of (at c.args.t) ≡ Some (seen_form at c.in-Ok-Some.form) = search rules in
    let yes : c.all_zero.result ≡ true = search rules in
    subst IsConstant (sym is) (sym (c.all_zero.ensures at ∙ ap (λ (ps : List (ℤ × ℕ)). all_zero (map (seen_part at) ps)) c.deref.ensures) ∙ yes)

pub returns-else-all_zero-clause-value : goal.returns-else-all_zero-clause-value
returns-else-all_zero-clause-value c =
    let at = tree_at c.args.terms.now in
    let is : form_of (at c.args.t) ≡ Some (seen_form at c.in-Ok-Some.form) = search rules in
    let no : c.all_zero.result ≡ false = search rules in
    (is, sym (c.all_zero.ensures at ∙ ap (λ (ps : List (ℤ × ℕ)). all_zero (map (seen_part at) ps)) c.deref.ensures) ∙ no)

pub returns-in-Ok-None-clause-value : goal.returns-in-Ok-None-clause-value
returns-in-Ok-None-clause-value c =
    let at = tree_at c.args.terms.now in
    let is : form_of (at c.args.t) ≡ None = search rules in
    subst IsConstant (sym is) tt
