use Rattle.std.proofs.Common.{◌∙◌, FitsSigned, ap, rules, subst, sym, length}
use Rattle.std.proofs.lemmas.Int.{to_z-of_z}
use Rattle.std.specs.Int.{w128}
use Rattle.wy_search_bounds.proofs.BoundLemmas.{affine_size, no_form, some_form}
use Rattle.wy_search_bounds.proofs.KnownLemmas.{no_place, place_within, placed_at, placed_is, placed_over}
use Rattle.wy_search_bounds.proofs.tightest.with_literal.Goals as goal
use Rattle.wy_cong.specs.wy_check_nodes.Seen.{seen_branch}
use Rattle.wy_lin.specs.Linear.{Linear}
use Rattle.wy_lin.specs.Seen.{seen_form}
use Rattle.wy_check.specs.Seen.{AreAffine}
use Rattle.wy_cong.proofs.wy_check_nodes_proofs.FormLemmas.{form_kept, form_up}
use Rattle.wy_term.specs.Nodes.{tree_at}
use Rattle.wy_term.specs.Term.{Term}
use Rattle.wy_cong.specs.wy_check_spec.valid.Products.{affine}
use Rattle.wy_cong.specs.wy_check_spec.valid.Sums.{form_at}

pub relation-requires-clause-first : goal.relation-requires-clause-first
relation-requires-clause-first c = form_up (length c.args.terms.now) (length c.place_of_form.new.terms) c.args.form.now c.in_ok-place.ensures.stays.grows c.requires.form

pub relation-requires-clause-second : goal.relation-requires-clause-second
relation-requires-clause-second c = placed_over _ _ _ _ _ (placed_at _ _ _ c.in-Some.place _ c.in-Some.is c.in_ok-place.ensures.value) c.known_form-h.ensures

pub known_form-h-requires : goal.known_form-h-requires
known_form-h-requires c = place_within _ _ _ _ (placed_at _ _ _ c.in-Some.place _ c.in-Some.is c.in_ok-place.ensures.value)

pub with_bound-requires : goal.with_bound-requires
with_bound-requires c = affine_size c.in_ok-x-in-Some.x _ c.in_ok-x-in-Some.ensures

pub returns-in_ok-x-in-Some-clause-value : goal.returns-in_ok-x-in-Some-clause-value
returns-in_ok-x-in-Some-clause-value c = λ given are.
    let old = tree_at c.args.terms.now in
    let new = tree_at c.place_of_form.new.terms in
    let ls = (seen_branch old c.args.branch.now).literals in
    let f = seen_form old c.args.form.now in
    let h = seen_form new c.known_form-h.result.now in
    let here = ap (form_at ls) c.in_ok-number.ensures ∙ placed_is _ _ _ _ _ (placed_at _ _ _ c.in-Some.place _ c.in-Some.is c.in_ok-place.ensures.value) c.known_form-h.ensures in
    let fits : FitsSigned w128 c.known_form-h.result.now.constant = search rules in
    let kept = form_kept c.args.terms.now c.place_of_form.new.terms c.args.form.now c.in_ok-place.ensures.stays c.requires.form in
    some_form ls c.in_ok-number.number c.args.i f h c.args.below c.with_bound.result given c.in_ok-number.ensures here
    (c.with_bound.ensures ls f h given here (sym (to_z-of_z w128 c.known_form-h.result.now.constant fits)) (subst (λ (e : Linear Term). AreAffine c.in_ok-x-in-Some.x (affine e h)) kept c.in_ok-x-in-Some.ensures) are)

pub returns-in-None-clause-value : goal.returns-in-None-clause-value
returns-in-None-clause-value c = λ given are.
    let old = tree_at c.args.terms.now in
    let new = tree_at c.place_of_form.new.terms in
    let ls = (seen_branch old c.args.branch.now).literals in
    let here = ap (form_at ls) c.in_ok-number.ensures ∙ no_place _ _ _ _ c.in-None.is c.in_ok-place.ensures.value in
    no_form ls c.in_ok-number.number c.args.i (seen_form old c.args.form.now) c.args.below c.args.best given c.in_ok-number.ensures here are
