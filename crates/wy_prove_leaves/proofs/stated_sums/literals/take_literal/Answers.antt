use Rattle.std.proofs.Common.{◌≡◌, ◌∙◌, ◌++◌, List, true, None, Some, sym, ap, subst}
use Rattle.std.specs.Prelude.{option_map}
use Rattle.std.proofs.lemmas.Result.{IfOk-weaker}
use Rattle.wy_term.specs.Term.{Term}
use Rattle.wy_term.specs.Nodes.{tree_at}
use Rattle.wy_lin.specs.Seen.{seen_form}
use Rattle.wy_lin.specs.TermForm.{form_of_literal}
use Rattle.wy_prove_drafts.specs.wy_check_spec.judge.Node.{Literal, Node, has_literal}
use Rattle.wy_prove_drafts.specs.wy_check_nodes.Seen.{seen_branch, seen_literal}
use Rattle.wy_prove_drafts.specs.wy_check_spec.valid.Literals.{formula_of}
use Rattle.wy_search_spec.specs.Bounds.{Replaced}
use Rattle.wy_prove_drafts.proofs.wy_search_bounds_proofs.GatherLemmas.{form_behind}
use Rattle.wy_prove_drafts.specs.Draft.{seen_draft}
use Rattle.wy_prove_drafts.specs.Progress.{Progress}
use Rattle.wy_prove_drafts.proofs.DraftLemmas.{draft_stays, seen_draft_stays}
use Rattle.wy_prove_leaves.specs.stated_sums.Cuts.{Grows}
use Rattle.wy_prove_leaves.specs.stated_sums.Replacing.{AreStated, IsLinked, Turns, left_of}
use Rattle.wy_prove_leaves.proofs.stated_sums_lemmas.ClassedLemmas.{classed_stays}
use Rattle.wy_prove_leaves.proofs.stated_sums_lemmas.LeftLemmas.{grows_self, none_left, seen_there, there_has}
use Rattle.wy_prove_leaves.proofs.stated_sums.literals.take_literal.Goals as goal

pub take_form-requires-clause-draft : goal.take_form-requires-clause-draft
take_form-requires-clause-draft c = draft_stays c.args.terms.now c.form_at.new.terms c.args.draft.now c.in_ok-form.ensures.stays c.requires.draft

pub returns-in-Some-clause-value : goal.returns-in-Some-clause-value
returns-in-Some-clause-value c = λ types l rs classed linked here stated.
    let old = c.args.terms.now in
    let mid = c.form_at.new.terms in
    let literal = c.nth_literal-literal.result in
    let base : Node = seen_branch (tree_at old) c.args.base.now in
    let before : Progress = seen_draft (tree_at old) c.args.draft.now in
    let now : Progress = seen_draft (tree_at mid) c.args.draft.now in
    let behind : Progress = seen_draft (tree_at c.take_form.new.terms) c.take_form.new.draft in
    let kept : now ≡ before = seen_draft_stays old mid c.args.draft.now c.in_ok-form.ensures.stays c.requires.draft in
    let is : l ≡ seen_literal (tree_at old) literal = seen_there (tree_at old) c.args.base.now.literals.keys c.args.i literal l c.nth_literal-literal.ensures.value here in
    let same : l ≡ seen_literal (tree_at mid) literal = is ∙ ap (λ (t : Term). record { atom = t; holds = literal.1 }) (sym (c.in_ok-form.ensures.stays.trees literal.0 c.nth_literal-literal.ensures.within)) in
    let form : form_of_literal (formula_of l) ≡ Some (seen_form (tree_at mid) c.in-Some.form) =
    sym (form_behind base.literals c.args.i c.in_ok-number_of_place.field-0 l c.in_ok-number_of_place.ensures here) ∙ (sym c.in_ok-form.ensures.value ∙ ap (option_map (seen_form (tree_at mid))) c.in-Some.is) in
    IfOk-weaker c.take_form.result _ _
    (λ turn g.
    subst (λ (p : Progress). Turns types base p behind (rs ++ left_of base l) c.take_form.new.stated turn) kept
    (subst (λ (k : Literal). Turns types base now behind (rs ++ left_of base k) c.take_form.new.stated turn) (sym same) g))
    (c.take_form.ensures.value types base rs (classed_stays old mid base c.args.classed.now c.in_ok-form.ensures.stays classed)
    (subst (λ (p : Progress). IsLinked base p.node) (sym kept) linked)
    (subst (λ (k : Literal). has_literal base.literals k ≡ true) same (there_has base.literals c.args.i l here))
    (subst (λ (k : Literal). form_of_literal (formula_of k) ≡ Some (seen_form (tree_at mid) c.in-Some.form)) same form)
    (subst (λ (p : Progress). AreStated base p.node.literals rs c.args.stated.now) (sym kept) stated))

pub returns-in-None-clause-value : goal.returns-in-None-clause-value
returns-in-None-clause-value c = λ types l rs classed linked here stated.
    let old = c.args.terms.now in
    let mid = c.form_at.new.terms in
    let base : Node = seen_branch (tree_at old) c.args.base.now in
    let before : Progress = seen_draft (tree_at old) c.args.draft.now in
    let now : Progress = seen_draft (tree_at mid) c.args.draft.now in
    let kept : now ≡ before = seen_draft_stays old mid c.args.draft.now c.in_ok-form.ensures.stays c.requires.draft in
    let form : form_of_literal (formula_of l) ≡ None =
    sym (form_behind base.literals c.args.i c.in_ok-number_of_place.field-0 l c.in_ok-number_of_place.ensures here) ∙ (sym c.in_ok-form.ensures.value ∙ ap (option_map (seen_form (tree_at mid))) c.in-None.is) in (
      subst (λ (p : Progress). Grows types before p) (sym kept) (grows_self types before),
      subst (λ (p : Progress). AreStated base p.node.literals (rs ++ left_of base l) c.args.stated.now) (sym kept)
          (subst (λ (qs : List Replaced). AreStated base before.node.literals qs c.args.stated.now) (sym (none_left base l rs form)) stated),
    )

pub returns-in-None-clause-draft : goal.returns-in-None-clause-draft
returns-in-None-clause-draft c = draft_stays c.args.terms.now c.form_at.new.terms c.args.draft.now c.in_ok-form.ensures.stays c.requires.draft
