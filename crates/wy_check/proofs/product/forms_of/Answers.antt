use Rattle.std.proofs.Common.{◌≡◌, None, length, rules, sym, ap, subst, ◌∙◌}
use Rattle.std.specs.Prelude.{option_map, IfSome}
use Rattle.wy_lemmas.proofs.Options.{some}
use Rattle.wy_term.specs.Nodes.{tree_at}
use Rattle.wy_vc_laws.specs.wy_check_spec.judge.Node.{Node}
use Rattle.wy_facts.proofs.StepLemmas.{stays_on}
use Rattle.wy_lin.specs.TermForm.{form_of}
use Rattle.wy_lin.specs.Seen.{IsOver, linear_form, seen_form}
use Rattle.wy_check_splits.specs.wy_check_nodes.Seen.{seen_branch}
use Rattle.wy_vc_laws.specs.wy_check_spec.valid.Sums.{form_at}
use Rattle.wy_check_splits.proofs.wy_check_nodes_proofs.SumsBranchLemmas.{branch_stays, node_stays}
use Rattle.wy_check_splits.proofs.wy_check_nodes_proofs.FormLemmas.{form_kept}
use Rattle.wy_check.proofs.ProductLemmas.{forms_stop_fourth, forms_are}
use Rattle.wy_check.proofs.product.forms_of.Goals as goal

pub form_at-requires-2 : goal.form_at-requires-2
form_at-requires-2 c = branch_stays c.args.terms.now c.form_at.new.terms c.args.branch.now c.in_ok-lower.ensures.stays c.requires.branch

pub returns-in_default-4-clause-value : goal.returns-in_default-4-clause-value
returns-in_default-4-clause-value c =
    let at = tree_at c.args.terms.now in
    let mid = c.form_at.new.terms in
    let b = c.args.branch.now in
    let ls = (seen_branch at b).literals in
    let same = node_stays c.args.terms.now mid b c.in_ok-lower.ensures.stays c.requires.branch in
    let none : c.in_ok-upper.field-0 ≡ None = search rules in
    let gave = c.in_ok-upper.ensures.value ∙ ap (λ (n : Node). form_at n.literals c.args.j) same in
    forms_stop_fourth (form_of (at c.args.factors.0)) (form_of (at c.args.factors.1)) (form_at ls c.args.i) (form_at ls c.args.j) (sym (ap (option_map (seen_form (tree_at c.form_at-2.new.terms))) none) ∙ gave)

pub returns-clause-value : goal.returns-clause-value
returns-clause-value c =
    let old = c.args.terms.now in
    let mid = c.form_at.new.terms in
    let new = c.form_at-2.new.terms in
    let b = c.args.branch.now in
    let ls = (seen_branch (tree_at old) b).literals in
    let first_stays = c.in_ok-lower.ensures.stays in
    let then_stays = c.in_ok-upper.ensures.stays in
    let stays = stays_on old mid new first_stays then_stays in
    let same = node_stays old mid b first_stays c.requires.branch in
    let over_first = subst (λ o. IfSome o (λ h. IsOver (length old) (linear_form h))) c.in-Some.is c.in_ok-first.ensures.within in
    let over_second = subst (λ o. IfSome o (λ h. IsOver (length old) (linear_form h))) c.in-Some-2.is c.in_ok-second.ensures.within in
    let over_lower = subst (λ o. IfSome o (λ h. IsOver (length mid) (linear_form h))) c.in-Some-3.is c.in_ok-lower.ensures.within in
    forms_are (form_of (tree_at old c.args.factors.0)) (form_of (tree_at old c.args.factors.1)) (form_at ls c.args.i) (form_at ls c.args.j)
    (seen_form (tree_at new) c.in-Some.first) (seen_form (tree_at new) c.in-Some-2.second) (seen_form (tree_at new) c.in-Some-3.lower) (seen_form (tree_at new) c.in-Some-4.upper)
    (ap some (form_kept old new c.in-Some.first stays over_first) ∙ (sym (ap (option_map (seen_form (tree_at old))) c.in-Some.is) ∙ c.in_ok-first.ensures.value))
    (ap some (form_kept old new c.in-Some-2.second stays over_second) ∙ (sym (ap (option_map (seen_form (tree_at old))) c.in-Some-2.is) ∙ c.in_ok-second.ensures.value))
    (ap some (form_kept mid new c.in-Some-3.lower then_stays over_lower) ∙ (sym (ap (option_map (seen_form (tree_at mid))) c.in-Some-3.is) ∙ c.in_ok-lower.ensures.value))
    (sym (ap (option_map (seen_form (tree_at new))) c.in-Some-4.is) ∙ (c.in_ok-upper.ensures.value ∙ ap (λ (n : Node). form_at n.literals c.args.j) same))
