use Rattle.std.proofs.Common.{◌≡◌, ◌∙◌, [], ◌++◌, List, length, map, ap, ap₂, subst, sym}
use Rattle.wy_search.proofs.wy_search_bounds_proofs.KnownLemmas.{on_ok_anyway}
use Rattle.wy_prove_drafts.specs.Draft.{seen_draft}
use Rattle.wy_prove_drafts.specs.Progress.{Progress}
use Rattle.wy_prove_drafts.proofs.DraftLemmas.{draft_stays, seen_draft_stays}
use Rattle.wy_facts.proofs.StepLemmas.{below_kept, stays_on, terms_kept}
use Rattle.wy_facts.specs.Seen.{AreBelow}
use Rattle.wy_prove_drafts.specs.wy_check_spec.judge.Node.{Node}
use Rattle.wy_prove_drafts.specs.wy_check_nodes.Seen.{seen_branch}
use Rattle.wy_prove_drafts.proofs.wy_check_nodes_proofs.SumsBranchLemmas.{branch_stays, node_stays}
use Rattle.wy_lemmas.proofs.Options.{on_ok}
use Rattle.wy_prove_drafts.specs.wy_search_spec.Expansion.{everything, indices_in, with_instances}
use Rattle.wy_prove_drafts.specs.wy_search_spec.Standing.{with_unbound}
use Rattle.wy_search.specs.Turns.{begun, index_terms_in}
use Rattle.wy_term.specs.Nodes.{tree_at}
use Rattle.wy_term.specs.Term.{Term}
use Rattle.wy_prove_rounds.specs.Moving.{AllOf, IsInstant, Moves, Reaches}
use Rattle.wy_prove_rounds.proofs.NodeLemmas.{instants_are}
use Rattle.wy_prove_rounds.proofs.RoundLemmas.{instances_reach}
use Rattle.wy_prove_rounds.proofs.expanding.add_instances.Goals as goal

pub write_instances-requires-clause-terms : goal.write_instances-requires-clause-terms
write_instances-requires-clause-terms c = subst (AreBelow (length c.args.terms.now)) (sym c.deref.ensures.value) c.in_ok-indices.ensures.below

pub with_instances-requires-clause-branch : goal.with_instances-requires-clause-branch
with_instances-requires-clause-branch c = branch_stays c.args.terms.now c.write_instances.new.terms c.args.branch.now c.in_ok-write_instances.ensures.stays c.requires.branch

pub with_instances-requires-clause-terms : goal.with_instances-requires-clause-terms
with_instances-requires-clause-terms c =
    subst (AreBelow (length c.write_instances.new.terms)) (sym c.deref-2.ensures.value)
    (below_kept c.args.terms.now c.write_instances.new.terms c.in_ok-indices.indices.items c.in_ok-write_instances.ensures.stays c.in_ok-indices.ensures.below)

pub returns-clause-seen : goal.returns-clause-seen
returns-clause-seen c =
    let old = c.args.terms.now in
    let mid = c.write_instances.new.terms in
    let stays = c.in_ok-write_instances.ensures.stays in
    let all : map (tree_at mid) c.deref-2.result.now ≡ index_terms_in (seen_branch (tree_at old) c.args.branch.now) (map (tree_at old) c.args.names.now) =
    ap (map (tree_at mid)) c.deref-2.ensures.value ∙ terms_kept old mid c.in_ok-indices.indices.items stays c.in_ok-indices.ensures.below ∙ c.in_ok-indices.ensures.value in
    on_ok c.with_instances.result _ _ (λ is. is ∙ ap₂ (λ (n : Node) (ts : List Term). with_instances n n.literals ts) (node_stays old mid c.args.branch.now stays c.requires.branch) all) c.with_instances.ensures.value

pub returns-clause-value : goal.returns-clause-value
returns-clause-value c = λ types beside.
    let old = c.args.terms.now in
    let mid = c.write_instances.new.terms in
    let new = c.with_instances.new.terms in
    let node = seen_branch (tree_at old) c.args.branch.now in
    let names = map (tree_at old) c.args.names.now in
    let made = seen_branch (tree_at new) c.with_instances.new.branch in
    let first = seen_draft (tree_at old) c.args.draft.now in
    let second = seen_draft (tree_at mid) c.write_instances.new.draft in
    let all : map (tree_at old) c.deref.result.now ≡ index_terms_in node names = ap (map (tree_at old)) c.deref.ensures.value ∙ c.in_ok-indices.ensures.value in
    let kept = seen_draft_stays mid new c.write_instances.new.draft c.with_instances.ensures.stays c.in_ok-write_instances.ensures.draft in
    let are : AllOf IsInstant (index_terms_in node names) = instants_are node (with_unbound [] (indices_in (everything node)) ++ names) beside.sorted beside.folded in
    let moves : Moves types node (λ n. with_instances n node.literals (index_terms_in node names)) first second =
    subst (λ (ts : List Term). Moves types node (λ n. with_instances n node.literals ts) first second) all (c.in_ok-write_instances.ensures.value types (subst (AllOf IsInstant) (sym all) are)) in
    on_ok c.with_instances.result _ _ (λ is. subst (λ (d : Progress). Reaches types (begun made) first d) (sym kept) (instances_reach types node made names first second is beside moves)) (returns-clause-seen c)

pub returns-clause-draft : goal.returns-clause-draft
returns-clause-draft c = on_ok_anyway _ c.with_instances.result (draft_stays c.write_instances.new.terms c.with_instances.new.terms c.write_instances.new.draft c.with_instances.ensures.stays c.in_ok-write_instances.ensures.draft)

pub returns-clause-stays : goal.returns-clause-stays
returns-clause-stays c = stays_on c.args.terms.now c.write_instances.new.terms c.with_instances.new.terms c.in_ok-write_instances.ensures.stays c.with_instances.ensures.stays
