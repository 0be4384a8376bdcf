use Rattle.std.proofs.Common.{sym, ap, ◌∙◌}
use Rattle.std.specs.Prelude.{option_map}
use Rattle.wy_lemmas.proofs.Options.{some}
use Rattle.wy_term.specs.Term.{Term}
use Rattle.wy_term.specs.Nodes.{tree_at}
use Rattle.wy_check_splits.specs.wy_check_nodes.Seen.{seen_branch}
use Rattle.wy_vc_laws.specs.wy_check_spec.valid.Products.{product_bound}
use Rattle.wy_check.specs.Stated.{seen_factors, seen_forms}
use Rattle.wy_check.proofs.ProductLemmas.{stated_no_forms, stated_no_numbers, stated_all}
use Rattle.wy_check.proofs.product.product_stated.Goals as goal

pub returns-in_default-2-clause-value : goal.returns-in_default-2-clause-value
returns-in_default-2-clause-value c =
    let old = c.args.terms.now in
    let mid = c.forms_of.new.terms in
    let ls = (seen_branch (tree_at old) c.args.branch.now).literals in
    let u = seen_factors (tree_at old) c.in-Some.factors in
    stated_no_forms ls c.args.i c.args.j (tree_at old c.args.p) u c.in-Some.ensures.value (sym (ap (option_map (seen_forms (tree_at mid))) c.in_default-2.is) ∙ c.in_ok-forms.ensures.value)

pub returns-in_default-3-clause-value : goal.returns-in_default-3-clause-value
returns-in_default-3-clause-value c =
    let old = c.args.terms.now in
    let mid = c.forms_of.new.terms in
    let ls = (seen_branch (tree_at old) c.args.branch.now).literals in
    let u = seen_factors (tree_at old) c.in-Some.factors in
    stated_no_numbers ls c.args.i c.args.j (tree_at old c.args.p) u (seen_forms (tree_at mid) c.in-Some-2.forms) c.in-Some.ensures.value (sym (ap (option_map (seen_forms (tree_at mid))) c.in-Some-2.is) ∙ c.in_ok-forms.ensures.value) (sym c.in_default-3.is ∙ c.in_ok-numbers.ensures)

pub returns-in-Ok-clause-value : goal.returns-in-Ok-clause-value
returns-in-Ok-clause-value c =
    let old = c.args.terms.now in
    let mid = c.forms_of.new.terms in
    let ls = (seen_branch (tree_at old) c.args.branch.now).literals in
    let u = seen_factors (tree_at old) c.in-Some.factors in
    let stays = c.in_ok-forms.ensures.stays in
    let q = c.in-Some-3.numbers in
    let tree =
    c.in-Ok.ensures.value
    ∙ (ap (λ (x : Term). product_bound x (tree_at mid c.in-Some.factors.0) (tree_at mid c.in-Some.factors.1) q.both q.first q.second q.alone) (stays.trees c.args.p c.requires.product)
    ∙ (ap (λ (x : Term). product_bound (tree_at old c.args.p) x (tree_at mid c.in-Some.factors.1) q.both q.first q.second q.alone) (stays.trees c.in-Some.factors.0 c.in-Some.ensures.within.0)
    ∙ ap (λ (x : Term). product_bound (tree_at old c.args.p) (tree_at old c.in-Some.factors.0) x q.both q.first q.second q.alone) (stays.trees c.in-Some.factors.1 c.in-Some.ensures.within.1))) in
    ap some tree ∙ stated_all ls c.args.i c.args.j (tree_at old c.args.p) u (seen_forms (tree_at mid) c.in-Some-2.forms) q c.in-Some.ensures.value (sym (ap (option_map (seen_forms (tree_at mid))) c.in-Some-2.is) ∙ c.in_ok-forms.ensures.value) (sym c.in-Some-3.is ∙ c.in_ok-numbers.ensures)
