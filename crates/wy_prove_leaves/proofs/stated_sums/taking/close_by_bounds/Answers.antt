use Rattle.std.proofs.Common.{ℕ, Option, Some, subst}
use Rattle.std.specs.Prelude.{option_map, Vec}
use Rattle.std.specs.declared.alloc.Global.{Global}
use Rattle.std.proofs.lemmas.Result.{IfOk-weaker}
use Rattle.wy_term.specs.Nodes.{tree_at}
use Rattle.wy_cert.specs.Steps.{sum_of}
use Rattle.wy_prove_drafts.specs.wy_search_bounds.Seen.{seen_takings}
use Rattle.wy_prove_drafts.specs.Draft.{seen_draft}
use Rattle.wy_prove_drafts.specs.Progress.{Progress, Closes}
use Rattle.wy_prove_drafts.proofs.DraftLemmas.{draft_stays, seen_draft_stays}
use Rattle.wy_prove_leaves.specs.stated_sums.Replacing.{AreSummands}
use Rattle.wy_prove_leaves.proofs.stated_sums_lemmas.TakenLemmas.{bounds_close}
use Rattle.wy_prove_leaves.proofs.stated_sums.taking.close_by_bounds.Goals as goal

pub close_by_sum-requires : goal.close_by_sum-requires
close_by_sum-requires c = record { draft = draft_stays c.args.terms.now c.summands.new.terms c.args.draft.now c.in_ok-pairs.ensures.stays c.requires.draft }

pub returns-in-Some-clause-value : goal.returns-in-Some-clause-value
returns-in-Some-clause-value c = λ types base f same h e.
    let old = c.args.terms.now in
    let ts = seen_takings c.args.taken.now in
    let before : Progress = seen_draft (tree_at old) c.args.draft.now in
    let behind : Progress = seen_draft (tree_at c.close_by_sum.new.terms) c.close_by_sum.new.draft in
    let kept = seen_draft_stays old c.summands.new.terms c.args.draft.now c.in_ok-pairs.ensures.stays c.requires.draft in
    let are : AreSummands base before.node.literals c.args.own ts (Some c.in-Some.pairs.items) =
    subst (λ (o : Option (Vec (ℕ × ℕ) Global)). AreSummands base before.node.literals c.args.own ts (option_map (λ v. v.items) o)) c.in-Some.is (c.in_ok-pairs.ensures.value base same h.bounds) in
    IfOk-weaker c.close_by_sum.result _ _
    (λ wrote g.
    bounds_close types base before behind c.args.own f ts c.in-Some.pairs.items wrote h are e
    (subst (λ (p : Progress). Closes types (sum_of c.in-Some.pairs.items) p behind wrote) kept g))
    (c.close_by_sum.ensures.value types)

pub returns-in-None-clause-draft : goal.returns-in-None-clause-draft
returns-in-None-clause-draft c = draft_stays c.args.terms.now c.summands.new.terms c.args.draft.now c.in_ok-pairs.ensures.stays c.requires.draft
