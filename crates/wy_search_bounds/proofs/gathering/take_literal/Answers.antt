use Rattle.std.proofs.Common.{◌∙◌, ◌+◌, List, false, map, refl, sym, ap}
use Rattle.std.proofs.lemmas.Result.{IfOk-weaker}
use Rattle.wy_term.specs.Term.{Term}
use Rattle.wy_term.specs.Nodes.{tree_at}
use Rattle.wy_lin.specs.Seen.{seen_form}
use Rattle.wy_cong.specs.wy_check_nodes.Seen.{seen_literal}
use Rattle.wy_cong.specs.wy_search_spec.Bounds.{numbered, replaced}
use Rattle.wy_cong.specs.Seen.{terms_of}
use Rattle.wy_search_bounds.specs.Seen.{seen_replaced}
use Rattle.wy_search_bounds.proofs.GatherLemmas.{takes_form, takes_none, literal_there, terms_stay}
use Rattle.wy_search_bounds.proofs.KnownLemmas.{on_ok_anyway, no_place, place_within, placed_at, placed_is, placed_over}
use Rattle.wy_search_bounds.proofs.gathering.take_literal.Goals as goal

pub known_form-requires : goal.known_form-requires
known_form-requires c = place_within _ _ _ _ (placed_at _ _ _ c.in-Some.place _ c.in-Some.is c.in_ok-place.ensures.value)

pub numbered-requires-clause-form : goal.numbered-requires-clause-form
numbered-requires-clause-form c = placed_over _ _ _ _ _ (placed_at _ _ _ c.in-Some.place _ c.in-Some.is c.in_ok-place.ensures.value) c.known_form.ensures

pub returns-in_ok-one-in-Some-clause-value : goal.returns-in_ok-one-in-Some-clause-value
returns-in_ok-one-in-Some-clause-value c = λ rs was.
    let old = c.args.terms.now in
    let new = c.place_of_form.new.terms in
    let ts = terms_of (tree_at old) c.args.present.now in
    let keys = c.args.branch.now.literals.keys in
    let f = seen_form (tree_at new) c.known_form.result.now in
    let here = literal_there (tree_at old) keys c.args.i (0, false) c.requires.place in
    let found = sym (placed_is _ _ _ _ _ (placed_at _ _ _ c.in-Some.place _ c.in-Some.is c.in_ok-place.ensures.value) c.known_form.ensures) in
    let made = c.in_ok-one-in-Some.ensures ∙ ap (replaced c.args.labels.now) (c.in_ok-placed-in-Some.ensures ∙ ap (λ (us : List Term). numbered us f) (terms_stay old new c.args.present.now c.in_ok-place.ensures.stays c.requires.present)) in
    IfOk-weaker c.take.result _ _ (λ u all. takes_form ts c.args.labels.now (map (seen_literal (tree_at old)) keys) c.args.i (c.args.i + 1) _ rs c.take.new.gathered f (seen_replaced c.in_ok-one-in-Some.one) refl here found made all) (c.take.ensures rs was)

pub returns-in_ok-one-in-Some-clause-known : goal.returns-in_ok-one-in-Some-clause-known
returns-in_ok-one-in-Some-clause-known c = on_ok_anyway _ c.take.result c.in_ok-place.ensures.known

pub returns-in-None-clause-value : goal.returns-in-None-clause-value
returns-in-None-clause-value c = λ rs was.
    let old = c.args.terms.now in
    let keys = c.args.branch.now.literals.keys in
    let here = literal_there (tree_at old) keys c.args.i (0, false) c.requires.place in
    let found = sym (no_place _ _ _ _ c.in-None.is c.in_ok-place.ensures.value) in
    takes_none (terms_of (tree_at old) c.args.present.now) c.args.labels.now (map (seen_literal (tree_at old)) keys) c.args.i (c.args.i + 1) _ rs c.args.gathered.now refl here found was
