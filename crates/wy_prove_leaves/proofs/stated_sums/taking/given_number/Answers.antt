use Rattle.std.proofs.Common.{◌≡◌, ◌∙◌, ℕ, length, true, false, Option, Some, subst}
use Rattle.std.proofs.lemmas.Bool.{eq-eqb}
use Rattle.std.specs.Prelude.{option_map, Vec}
use Rattle.std.specs.declared.alloc.Global.{Global}
use Rattle.std.proofs.lemmas.Result.{IfOk-weaker}
use Rattle.wy_term.specs.Nodes.{tree_at}
use Rattle.wy_prove_drafts.specs.wy_search_bounds.Seen.{seen_takings}
use Rattle.wy_prove_drafts.specs.Draft.{seen_draft}
use Rattle.wy_prove_drafts.specs.Progress.{Progress}
use Rattle.wy_prove_drafts.proofs.DraftLemmas.{draft_stays, seen_draft_stays}
use Rattle.wy_prove_leaves.specs.stated_sums.Cuts.{StatesDivided}
use Rattle.wy_prove_leaves.specs.stated_sums.Replacing.{AreSummands}
use Rattle.wy_prove_leaves.proofs.stated_sums_lemmas.TakenLemmas.{taken_give}
use Rattle.wy_prove_leaves.proofs.stated_sums.taking.given_number.Goals as goal

pub state_divided-requires : goal.state_divided-requires
state_divided-requires c = record { draft = draft_stays c.args.terms.now c.summands.new.terms c.args.draft.now c.in_ok-pairs.ensures.stays c.requires.draft }

pub returns-in-Some-clause-value : goal.returns-in-Some-clause-value
returns-in-Some-clause-value c = λ types base f g same h e.
    let old = c.args.terms.now in
    let ts = seen_takings c.args.taken.now in
    let before : Progress = seen_draft (tree_at old) c.args.draft.now in
    let behind : Progress = seen_draft (tree_at c.state_divided.new.terms) c.state_divided.new.draft in
    let kept = seen_draft_stays old c.summands.new.terms c.args.draft.now c.in_ok-pairs.ensures.stays c.requires.draft in
    let are : AreSummands base before.node.literals c.args.own ts (Some c.in-Some.pairs.items) =
    subst (λ (o : Option (Vec (ℕ × ℕ) Global)). AreSummands base before.node.literals c.args.own ts (option_map (λ v. v.items) o)) c.in-Some.is (c.in_ok-pairs.ensures.value base same h.bounds) in
    let some : length c.args.taken.now ≡ 0 → ⊥ = λ none.
    let up : false ≡ true = c.if-is_empty.ensures ∙ eq-eqb (length c.args.taken.now) 0 none in
    cc in
    IfOk-weaker c.state_divided.result _ _
    (λ o states.
    taken_give types base before behind c.args.own f g c.args.taken.now c.in-Some.pairs.items o some h are e
    (subst (λ (p : Progress). StatesDivided types c.in-Some.pairs.items p behind o) kept states))
    (c.state_divided.ensures.value types)

pub returns-in-None-clause-draft : goal.returns-in-None-clause-draft
returns-in-None-clause-draft c = draft_stays c.args.terms.now c.summands.new.terms c.args.draft.now c.in_ok-pairs.ensures.stays c.requires.draft
