use Rattle.std.proofs.Common.{◌≡◌, ◌∙◌, ◌+◌, ◌≤◌, ℕ, List, ◌∷◌, drop, length, Option, Some, refl, sym, ap, subst, arith}
use Rattle.std.proofs.lemmas.List.{drop_more, drop_all}
use Rattle.wy_term.specs.Nodes.{tree_at}
use Rattle.wy_lin.specs.Seen.{linear_form}
use Rattle.wy_facts.proofs.StepLemmas.{stays_on}
use Rattle.wy_prove_drafts.specs.wy_search_bounds.declared.removal.Taking.{Taking}
use Rattle.wy_prove_drafts.specs.wy_search_bounds.Seen.{seen_taking, seen_takings}
use Rattle.wy_prove_drafts.proofs.wy_search_bounds_proofs.GatherLemmas.{terms_stay}
use Rattle.wy_prove_drafts.specs.Draft.{seen_draft}
use Rattle.wy_prove_drafts.specs.Progress.{Progress}
use Rattle.wy_prove_drafts.proofs.DraftLemmas.{draft_stays, seen_draft_stays}
use Rattle.wy_prove_leaves.specs.stated_sums.Named.{Names}
use Rattle.wy_prove_leaves.specs.stated_sums.Replacing.{IsBound}
use Rattle.wy_prove_leaves.proofs.stated_sums_lemmas.TakenLemmas.{IsTaking, taking_next, taking_ends}
use Rattle.wy_prove_leaves.proofs.stated_sums.bounds.summands.Goals as goal

pub order_number-requires-clause-draft : goal.order_number-requires-clause-draft
order_number-requires-clause-draft c = draft_stays c.args.terms.now c.loop-taking.terms c.args.draft.now c.loop-taking.invariant.stays c.requires.draft

pub returns-in-None-clause-value : goal.returns-in-None-clause-value
returns-in-None-clause-value c = λ base same bounds.
    let old = c.args.terms.now in
    let now = c.loop-taking.terms in
    let i = c.loop-taking.taking-index in
    let taken = c.args.taken.now in
    let x = c.taking-item.result in
    let form = linear_form x.form in
    let before : Progress = seen_draft (tree_at old) c.args.draft.now in
    let seen_now : Progress = seen_draft (tree_at now) c.args.draft.now in
    let kept : seen_now ≡ before = seen_draft_stays old now c.args.draft.now c.loop-taking.invariant.stays c.requires.draft in
    let left : drop i taken ≡ x ∷ drop (i + 1) taken = drop_more taken i x c.loop-taking-test.true ∙ ap (λ (t : Taking). t ∷ drop (i + 1) taken) (sym c.taking-item.is) in
    let h = subst (λ (l : List Taking). IsTaking base before.node.literals c.args.own c.loop-taking.pairs.items (seen_takings taken) (seen_takings l)) left (c.loop-taking.invariant.taking base same bounds) in
    let bound = subst (λ (p : Progress). IsBound base p.node.literals form) (sym kept) h.bounds.1 in
    subst (λ (o : Option ℕ). Names base seen_now.node.literals form o) c.in-None.is
    (c.in_ok-k.ensures.value base (terms_stay old now c.args.present.now c.loop-taking.invariant.stays c.requires.present ∙ same) bound)

pub loop-taking-preserved : goal.loop-taking-preserved
loop-taking-preserved c = record {
  taking = λ base same bounds.
      let old = c.args.terms.now in
      let now = c.loop-taking.terms in
      let i = c.loop-taking.taking-index in
      let taken = c.args.taken.now in
      let x = c.taking-item.result in
      let form = linear_form x.form in
      let before : Progress = seen_draft (tree_at old) c.args.draft.now in
      let seen_now : Progress = seen_draft (tree_at now) c.args.draft.now in
      let kept : seen_now ≡ before = seen_draft_stays old now c.args.draft.now c.loop-taking.invariant.stays c.requires.draft in
      let left : drop i taken ≡ x ∷ drop (i + 1) taken = drop_more taken i x c.loop-taking-test.true ∙ ap (λ (t : Taking). t ∷ drop (i + 1) taken) (sym c.taking-item.is) in
      let h = subst (λ (l : List Taking). IsTaking base before.node.literals c.args.own c.loop-taking.pairs.items (seen_takings taken) (seen_takings l)) left (c.loop-taking.invariant.taking base same bounds) in
      let bound = subst (λ (p : Progress). IsBound base p.node.literals form) (sym kept) h.bounds.1 in
      let found = subst (λ (o : Option ℕ). Names base seen_now.node.literals form o) c.in-Some.is
      (c.in_ok-k.ensures.value base (terms_stay old now c.args.present.now c.loop-taking.invariant.stays c.requires.present ∙ same) bound) in
      let named = subst (λ (p : Progress). Names base p.node.literals form (Some c.in-Some.k)) kept found in
      taking_next base before.node.literals c.args.own c.loop-taking.pairs.items c.push-in-Some.new.self.items (seen_takings taken) (seen_takings (drop (i + 1) taken)) (seen_taking x) x.times c.in-Some.k c.in_ok-push-in-Some.ensures.items refl named h;
  stays = stays_on c.args.terms.now c.loop-taking.terms c.order_number.new.terms c.loop-taking.invariant.stays c.in_ok-k.ensures.stays;
}

pub returns-clause-value : goal.returns-clause-value
returns-clause-value c = λ base same bounds.
    let taken = c.args.taken.now in
    let before : Progress = seen_draft (tree_at c.args.terms.now) c.args.draft.now in
    let le : length taken ≤ c.loop-taking.taking-index = omega arith in
    taking_ends base before.node.literals c.args.own c.loop-taking.pairs.items (seen_takings taken)
    (subst (λ (l : List Taking). IsTaking base before.node.literals c.args.own c.loop-taking.pairs.items (seen_takings taken) (seen_takings l)) (drop_all c.loop-taking.taking-index taken le) (c.loop-taking.invariant.taking base same bounds))
