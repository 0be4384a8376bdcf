use Rattle.std.proofs.Common.{◌≡◌, ◌∙◌, ◌+◌, ◌≤◌, ℕ, List, ◌∷◌, drop, length, sym, ap, subst, arith}
use Rattle.std.proofs.lemmas.List.{drop_more, drop_all}
use Rattle.std.proofs.lemmas.Result.{IfOk-weaker}
use Rattle.wy_term.specs.Nodes.{tree_at}
use Rattle.wy_cert.specs.Steps.{sum_of}
use Rattle.wy_lin_eliminate.specs.declared.steps.LinStep.{LinStep}
use Rattle.wy_facts.proofs.StepLemmas.{stays_on}
use Rattle.wy_prove_drafts.specs.Draft.{seen_draft}
use Rattle.wy_prove_drafts.specs.Progress.{Closes}
use Rattle.wy_prove_leaves.specs.stated_sums.Named.{with_numbers}
use Rattle.wy_prove_leaves.proofs.stated_sums_lemmas.WritingLemmas.{IsWriting, sum_written, cut_written, cut_there}
use Rattle.wy_prove_leaves.proofs.stated_sums.steps.write_steps.Goals as goal

pub returns-in-Sum-clause-value : goal.returns-in-Sum-clause-value
returns-in-Sum-clause-value c = λ types base all named refutes.
    let i = c.loop-step.step-index in
    let steps = c.args.steps.now in
    let x = c.step-item.result in
    let numbers = c.loop-step.numbers.items in
    let before = seen_draft (tree_at c.args.terms.now) c.args.draft.now in
    let now = seen_draft (tree_at c.loop-step.terms) c.loop-step.draft in
    let behind = seen_draft (tree_at c.close_by_sum.new.terms) c.close_by_sum.new.draft in
    let left : drop i steps ≡ x ∷ drop (i + 1) steps = drop_more steps i x c.loop-step-test.true ∙ ap (λ (s : LinStep). s ∷ drop (i + 1) steps) (sym c.step-item.is) in
    let w = subst (λ (l : List LinStep). IsWriting types base before now numbers l) left (c.loop-step.invariant.writing types base all named refutes) in
    let v = subst (λ (s : LinStep). IsWriting types base before now numbers (s ∷ drop (i + 1) steps)) c.in-Sum.is w in
    let same = c.in_ok-pairs-in-Sum.ensures ∙ (ap (λ (ks : List ℕ). with_numbers ks c.as_slice.result.now) c.deref.ensures.value ∙ ap (with_numbers numbers) c.as_slice.ensures) in
    IfOk-weaker c.close_by_sum.result _ _
    (λ wrote h. sum_written types base before now behind numbers _ (drop (i + 1) steps) wrote v (subst (λ (ps : List (ℕ × ℕ)). Closes types (sum_of ps) now behind wrote) same h))
    (c.close_by_sum.ensures.value types)

pub returns-in-None-clause-value : goal.returns-in-None-clause-value
returns-in-None-clause-value c = λ types base all named refutes.
    let i = c.loop-step.step-index in
    let steps = c.args.steps.now in
    let x = c.step-item.result in
    let numbers = c.loop-step.numbers.items in
    let before = seen_draft (tree_at c.args.terms.now) c.args.draft.now in
    let now = seen_draft (tree_at c.loop-step.terms) c.loop-step.draft in
    let behind = seen_draft (tree_at c.state_cut.new.terms) c.state_cut.new.draft in
    let left : drop i steps ≡ x ∷ drop (i + 1) steps = drop_more steps i x c.loop-step-test.true ∙ ap (λ (s : LinStep). s ∷ drop (i + 1) steps) (sym c.step-item.is) in
    let w = subst (λ (l : List LinStep). IsWriting types base before now numbers l) left (c.loop-step.invariant.writing types base all named refutes) in
    let v = subst (λ (s : LinStep). IsWriting types base before now numbers (s ∷ drop (i + 1) steps)) c.in-Cut.is w in
    let same = c.in_ok-pairs-in-Cut.ensures ∙ (ap (λ (ks : List ℕ). with_numbers ks c.as_slice-in-Cut.result.now) c.deref-in-Cut.ensures.value ∙ ap (with_numbers numbers) c.as_slice-in-Cut.ensures) in
    cut_there types base before now behind numbers _ _ c.in_ok-pairs-in-Cut.pairs.items (drop (i + 1) steps) c.in_ok-k-in-Cut.field-0 v same c.in-None.is (c.in_ok-k-in-Cut.ensures.value types)

pub loop-step-preserved : goal.loop-step-preserved
loop-step-preserved c = record {
  writing = λ types base all named refutes.
      let i = c.loop-step.step-index in
      let steps = c.args.steps.now in
      let x = c.step-item.result in
      let numbers = c.loop-step.numbers.items in
      let before = seen_draft (tree_at c.args.terms.now) c.args.draft.now in
      let now = seen_draft (tree_at c.loop-step.terms) c.loop-step.draft in
      let behind = seen_draft (tree_at c.state_cut.new.terms) c.state_cut.new.draft in
      let left : drop i steps ≡ x ∷ drop (i + 1) steps = drop_more steps i x c.loop-step-test.true ∙ ap (λ (s : LinStep). s ∷ drop (i + 1) steps) (sym c.step-item.is) in
      let w = subst (λ (l : List LinStep). IsWriting types base before now numbers l) left (c.loop-step.invariant.writing types base all named refutes) in
      let v = subst (λ (s : LinStep). IsWriting types base before now numbers (s ∷ drop (i + 1) steps)) c.in-Cut.is w in
      let same = c.in_ok-pairs-in-Cut.ensures ∙ (ap (λ (ks : List ℕ). with_numbers ks c.as_slice-in-Cut.result.now) c.deref-in-Cut.ensures.value ∙ ap (with_numbers numbers) c.as_slice-in-Cut.ensures) in
      subst (λ (ks : List ℕ). IsWriting types base before behind ks (drop (i + 1) steps)) (sym c.in_ok-push-in-Some.ensures.items)
      (cut_written types base before now behind numbers _ _ c.in_ok-pairs-in-Cut.pairs.items (drop (i + 1) steps) c.in-Some.k c.in_ok-k-in-Cut.field-0 v same c.in-Some.is (c.in_ok-k-in-Cut.ensures.value types));
  draft = c.in_ok-k-in-Cut.ensures.draft;
  stays = stays_on c.args.terms.now c.loop-step.terms c.state_cut.new.terms c.loop-step.invariant.stays c.in_ok-k-in-Cut.ensures.stays;
}

pub returns-clause-value : goal.returns-clause-value
returns-clause-value c = λ types base all named refutes.
    let steps = c.args.steps.now in
    let before = seen_draft (tree_at c.args.terms.now) c.args.draft.now in
    let now = seen_draft (tree_at c.loop-step.terms) c.loop-step.draft in
    let le : length steps ≤ c.loop-step.step-index = omega arith in
    (subst (λ (l : List LinStep). IsWriting types base before now c.loop-step.numbers.items l) (drop_all c.loop-step.step-index steps le) (c.loop-step.invariant.writing types base all named refutes)).refutes
