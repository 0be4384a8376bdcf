use Rattle.std.proofs.Common.{◌≡◌, ◌∙◌, ℕ, List, Some, sym, ap, subst}
use Rattle.std.specs.Prelude.{option_map, ◌==◌}
use Rattle.std.proofs.lemmas.Result.{IfOk-weaker}
use Rattle.wy_term.specs.Nodes.{tree_at}
use Rattle.wy_lin.specs.Seen.{linear_form, seen, seen_form}
use Rattle.wy_prove_drafts.specs.wy_check_spec.valid.Sums.{summed}
use Rattle.wy_lin_eliminate.specs.Division.{common}
use Rattle.wy_prove_drafts.specs.Draft.{seen_draft}
use Rattle.wy_prove_drafts.specs.Progress.{Progress}
use Rattle.wy_prove_drafts.proofs.DraftLemmas.{draft_stays, seen_draft_stays}
use Rattle.wy_prove_leaves.specs.stated_sums.Cuts.{StatesBy}
use Rattle.wy_prove_leaves.proofs.stated_sums_lemmas.StatingLemmas.{divided_stated}
use Rattle.wy_prove_leaves.proofs.stated_sums.cutting.state_divided.Goals as goal

pub state_by-requires : goal.state_by-requires
state_by-requires c = record { draft = draft_stays c.args.terms.now c.form_of_sum.new.terms c.args.draft.now c.in_ok-sum.ensures.stays c.requires.draft }

pub returns-in-Some-clause-value : goal.returns-in-Some-clause-value
returns-in-Some-clause-value c = λ types.
    let old = c.args.terms.now in
    let mid = c.form_of_sum.new.terms in
    let pairs = c.args.pairs.items in
    let before : Progress = seen_draft (tree_at old) c.args.draft.now in
    let behind : Progress = seen_draft (tree_at c.state_by.new.terms) c.state_by.new.draft in
    let kept = seen_draft_stays old mid c.args.draft.now c.in_ok-sum.ensures.stays c.requires.draft in
    let is : Some (seen (tree_at mid) (linear_form c.in-Some.sum)) ≡ summed before.node.literals pairs =
    ap (option_map (seen_form (tree_at mid))) (sym c.in-Some.is)
    ∙ (c.in_ok-sum.ensures.value ∙ ap (λ (ps : List (ℕ × ℕ)). summed before.node.literals ps) c.deref.ensures.value) in
    let divisor : c.common.result ≡ common (linear_form c.in-Some.sum).parts = c.common.ensures.value ∙ ap common c.deref-in-Some.ensures in
    IfOk-weaker c.state_by.result _ _
    (λ o h.
    divided_stated types before behind pairs (tree_at mid) (linear_form c.in-Some.sum) o is
    (subst (λ (d : ℕ). StatesBy (d == 1) types d pairs before behind o) divisor
    (subst (λ (p : Progress). StatesBy (c.common.result == 1) types c.common.result pairs p behind o) kept h)))
    (c.state_by.ensures.value types)

pub returns-in-None-clause-draft : goal.returns-in-None-clause-draft
returns-in-None-clause-draft c = draft_stays c.args.terms.now c.form_of_sum.new.terms c.args.draft.now c.in_ok-sum.ensures.stays c.requires.draft
