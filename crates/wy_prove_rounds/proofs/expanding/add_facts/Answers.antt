use Rattle.std.proofs.Common.{◌∙◌, ℕ, List, length, map, sym, ap, subst}
use Rattle.wy_search.proofs.wy_search_bounds_proofs.KnownLemmas.{on_ok_anyway}
use Rattle.wy_prove_drafts.specs.Draft.{seen_draft}
use Rattle.wy_prove_drafts.specs.Progress.{Progress}
use Rattle.wy_prove_drafts.proofs.DraftLemmas.{draft_stays, seen_draft_stays}
use Rattle.wy_facts.proofs.SharedLemmas.{types_stay}
use Rattle.wy_facts.specs.Seen.{AreBelow}
use Rattle.wy_facts.proofs.StepLemmas.{stays_on}
use Rattle.wy_prove_drafts.specs.wy_check_spec.judge.Node.{with_formulas}
use Rattle.wy_prove_drafts.specs.wy_check_nodes.Seen.{seen_branch}
use Rattle.wy_prove_drafts.proofs.wy_check_nodes_proofs.SumsBranchLemmas.{branch_stays, node_stays}
use Rattle.wy_lemmas.proofs.Options.{on_ok}
use Rattle.wy_prove_drafts.specs.wy_search_spec.Expansion.{with_facts}
use Rattle.wy_search.specs.Turns.{begun}
use Rattle.wy_search.proofs.RoundLemmas.{with_stated}
use Rattle.wy_search.proofs.wy_search_facts_proofs.AddingLemmas.{types_up}
use Rattle.wy_term.specs.Condition.{Entry, condition_of}
use Rattle.wy_term.specs.Nodes.{tree_at}
use Rattle.wy_prove_rounds.specs.Moving.{Reaches}
use Rattle.wy_prove_rounds.proofs.RoundLemmas.{beside_along, facts_reach}
use Rattle.wy_prove_rounds.proofs.expanding.add_facts.Goals as goal

pub facts_of-requires-clause-branch : goal.facts_of-requires-clause-branch
facts_of-requires-clause-branch c = branch_stays c.args.terms.now c.write_facts.new.terms c.args.branch.now c.in_ok-write_facts.ensures.stays c.requires.branch

pub facts_of-requires-clause-types : goal.facts_of-requires-clause-types
facts_of-requires-clause-types c = types_up c.args.terms.now c.write_facts.new.terms c.args.cond.now c.in_ok-write_facts.ensures.stays c.requires.types

pub add_all-requires-clause-formulas : goal.add_all-requires-clause-formulas
add_all-requires-clause-formulas c = subst (AreBelow (length c.facts_of.new.terms)) (sym c.deref.ensures.value) c.in_ok-facts.ensures.below

pub add_all-requires-clause-branch : goal.add_all-requires-clause-branch
add_all-requires-clause-branch c = branch_stays c.args.terms.now c.facts_of.new.terms c.args.branch.now (stays_on c.args.terms.now c.write_facts.new.terms c.facts_of.new.terms c.in_ok-write_facts.ensures.stays c.in_ok-facts.ensures.stays) c.requires.branch

pub returns-clause-seen : goal.returns-clause-seen
returns-clause-seen c =
    let old = c.args.terms.now in
    let mid = c.write_facts.new.terms in
    let new = c.facts_of.new.terms in
    let b = c.args.branch.now in
    let types = (condition_of old c.args.cond.now).types in
    let fs = map (tree_at new) c.in_ok-facts.facts.items in
    let first = c.in_ok-write_facts.ensures.stays in
    let middle = branch_stays old mid b first c.requires.branch in
    let same = types_stay old mid c.args.cond.now first c.requires.types in
    on_ok c.add_all.result _ _ (λ is.
    with_stated (seen_branch (tree_at mid) b) (seen_branch (tree_at new) b) _ (seen_branch (tree_at new) c.add_all.new.branch) fs
    (node_stays mid new b c.in_ok-facts.ensures.stays middle)
    (is ∙ ap (λ (ks : List ℕ). with_formulas (seen_branch (tree_at new) b) (map (tree_at new) ks)) c.deref.ensures.value)
    c.in_ok-facts.ensures.value
    ∙ (ap (λ (es : List Entry). with_facts es (seen_branch (tree_at mid) b)) same ∙ ap (with_facts types) (node_stays old mid b first c.requires.branch))) c.add_all.ensures.value

pub returns-clause-value : goal.returns-clause-value
returns-clause-value c = λ beside.
    let old = c.args.terms.now in
    let mid = c.write_facts.new.terms in
    let new = c.facts_of.new.terms in
    let types = (condition_of old c.args.cond.now).types in
    let node = seen_branch (tree_at old) c.args.branch.now in
    let made = seen_branch (tree_at new) c.add_all.new.branch in
    let first = seen_draft (tree_at old) c.args.draft.now in
    let second = seen_draft (tree_at mid) c.write_facts.new.draft in
    let kept = seen_draft_stays mid new c.write_facts.new.draft c.in_ok-facts.ensures.stays c.in_ok-write_facts.ensures.draft in
    let moves = c.in_ok-write_facts.ensures.value beside.sorted beside.folded in
    on_ok c.add_all.result _ _ (λ is. subst (λ (d : Progress). Reaches types (begun made) first d) (sym kept) (facts_reach types node made first second is beside (moves.each node (beside_along types (begun node) first beside)))) (returns-clause-seen c)

pub returns-clause-draft : goal.returns-clause-draft
returns-clause-draft c = on_ok_anyway _ c.add_all.result (draft_stays c.write_facts.new.terms c.facts_of.new.terms c.write_facts.new.draft c.in_ok-facts.ensures.stays c.in_ok-write_facts.ensures.draft)

pub returns-clause-stays : goal.returns-clause-stays
returns-clause-stays c = stays_on c.args.terms.now c.write_facts.new.terms c.facts_of.new.terms c.in_ok-write_facts.ensures.stays c.in_ok-facts.ensures.stays
