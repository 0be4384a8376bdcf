use Rattle.std.proofs.Common.{◌∙◌, ◌∷◌, ◌++◌, [], ℕ, Bool, true, Option, refl, sym, ap, subst}
use Rattle.wy_term.specs.Nodes.{tree_at}
use Rattle.wy_lin.specs.Seen.{linear_form}
use Rattle.wy_prove_drafts.specs.wy_search_bounds.declared.replacing.Replaced.{Replaced}
use Rattle.wy_prove_drafts.specs.wy_search_bounds.Seen.{seen_replaced}
use Rattle.wy_prove_drafts.specs.Draft.{seen_draft}
use Rattle.wy_prove_drafts.specs.Progress.{Progress}
use Rattle.wy_prove_leaves.specs.stated_sums.Cuts.{Gives}
use Rattle.wy_prove_leaves.specs.stated_sums.Replacing.{AreStated}
use Rattle.wy_prove_leaves.specs.stated_sums.Steps.{Closed}
use Rattle.wy_prove_leaves.proofs.stated_sums_lemmas.LeftLemmas.{grows_self, stated_gone, stated_leaves, stated_given, stated_kept}
use Rattle.wy_prove_leaves.proofs.stated_sums.taking.take.Goals as goal

pub returns-in-Gone-clause-value : goal.returns-in-Gone-clause-value
returns-in-Gone-clause-value c = λ types base f rs same h e stated.
    let before : Progress = seen_draft (tree_at c.args.terms.now) c.args.draft.now in (
      grows_self types before,
      subst (λ (r : Replaced). AreStated base before.node.literals (rs ++ seen_replaced r ∷ []) c.args.stated.now) (sym c.in-Gone.is) (stated_gone base before.node.literals rs c.args.stated.now stated),
    )

pub returns-in-Leaves-clause-value : goal.returns-in-Leaves-clause-value
returns-in-Leaves-clause-value c = λ types base f rs same h e stated.
    let before : Progress = seen_draft (tree_at c.args.terms.now) c.args.draft.now in (
      grows_self types before,
      subst (λ (r : Replaced). AreStated base before.node.literals (rs ++ seen_replaced r ∷ []) (record { leaves = true; numbers = c.args.stated.now.numbers; forms = c.args.stated.now.forms })) (sym c.in-Leaves.is)
          (stated_leaves base before.node.literals rs c.args.stated.now (record { leaves = true; numbers = c.args.stated.now.numbers; forms = c.args.stated.now.forms }) refl refl refl stated),
    )

pub returns-then-branch-clause-value : goal.returns-then-branch-clause-value
returns-then-branch-clause-value c = λ types base f rs same h e stated.
    let before : Progress = seen_draft (tree_at c.args.terms.now) c.args.draft.now in
    let behind : Progress = seen_draft (tree_at c.close_by_bounds.new.terms) c.close_by_bounds.new.draft in
    subst (λ (b : Bool). Closed types before behind b) c.if-branch.true
    (c.in_ok-close_by_bounds-in-Refutes.ensures.value types base f same h (sym e ∙ ap seen_replaced c.in-Refutes.is))

pub returns-else-branch-clause-value : goal.returns-else-branch-clause-value
returns-else-branch-clause-value c = λ types base f rs same h e stated.
    let before : Progress = seen_draft (tree_at c.args.terms.now) c.args.draft.now in
    let behind : Progress = seen_draft (tree_at c.close_by_bounds.new.terms) c.close_by_bounds.new.draft in
    subst (λ (b : Bool). Closed types before behind b) c.if-branch.false
    (c.in_ok-close_by_bounds-in-Refutes.ensures.value types base f same h (sym e ∙ ap seen_replaced c.in-Refutes.is))

pub returns-in_ok-push-in-Some-2-clause-value : goal.returns-in_ok-push-in-Some-2-clause-value
returns-in_ok-push-in-Some-2-clause-value c = λ types base f rs same h e stated.
    let before : Progress = seen_draft (tree_at c.args.terms.now) c.args.draft.now in
    let behind : Progress = seen_draft (tree_at c.given_number.new.terms) c.given_number.new.draft in
    let g = linear_form c.in-Given.form in
    let s = c.args.stated.now in
    let gives = subst (λ (o : Option ℕ). Gives types base g before behind o) c.in-Some.is (c.in_ok-k-in-Given.ensures.value types base f g same h (sym e ∙ ap seen_replaced c.in-Given.is)) in (
      gives.0,
      subst (λ (r : Replaced). AreStated base behind.node.literals (rs ++ seen_replaced r ∷ []) (record { leaves = s.leaves; numbers = c.push.new.self; forms = c.push-in-Some.new.self })) (sym c.in-Given.is)
          (stated_given base behind.node.literals rs s (record { leaves = s.leaves; numbers = c.push.new.self; forms = c.push-in-Some.new.self }) c.in-Some.k c.in-Given.form refl c.in_ok-push-in-Some.ensures.items c.in_ok-push-in-Some-2.ensures.items
          (stated_kept base before.node behind.node rs s gives.0.appends stated) gives.1),
    )

pub returns-in-None-clause-value : goal.returns-in-None-clause-value
returns-in-None-clause-value c = λ types base f rs same h e stated.
    let before : Progress = seen_draft (tree_at c.args.terms.now) c.args.draft.now in
    let behind : Progress = seen_draft (tree_at c.given_number.new.terms) c.given_number.new.draft in
    let g = linear_form c.in-Given.form in
    subst (λ (o : Option ℕ). Gives types base g before behind o) c.in-None.is (c.in_ok-k-in-Given.ensures.value types base f g same h (sym e ∙ ap seen_replaced c.in-Given.is))
