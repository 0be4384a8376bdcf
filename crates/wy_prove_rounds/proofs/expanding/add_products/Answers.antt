use Rattle.std.proofs.Common.{◌≤◌, ◌∙◌, ℕ, List, length, map, sym, ap, subst, arith}
use Rattle.wy_search.proofs.wy_search_bounds_proofs.KnownLemmas.{on_ok_anyway}
use Rattle.wy_prove_drafts.specs.Draft.{seen_draft}
use Rattle.wy_prove_drafts.specs.Progress.{Progress}
use Rattle.wy_prove_drafts.proofs.DraftLemmas.{draft_stays, seen_draft_stays}
use Rattle.wy_facts.specs.Seen.{AreBelow}
use Rattle.wy_facts.proofs.StepLemmas.{stays_on}
use Rattle.wy_prove_drafts.specs.wy_check_spec.judge.Node.{with_formulas}
use Rattle.wy_prove_drafts.specs.wy_check_nodes.Seen.{seen_branch}
use Rattle.wy_prove_drafts.proofs.wy_check_nodes_proofs.SumsBranchLemmas.{branch_stays, node_stays}
use Rattle.wy_lemmas.proofs.Options.{on_ok}
use Rattle.wy_prove_drafts.specs.wy_search_spec.Expansion.{with_products}
use Rattle.wy_search.specs.Turns.{begun}
use Rattle.wy_search.proofs.RoundLemmas.{with_stated}
use Rattle.wy_term.specs.Nodes.{tree_at}
use Rattle.wy_prove_rounds.specs.Moving.{Reaches}
use Rattle.wy_prove_rounds.proofs.RoundLemmas.{beside_along, products_reach}
use Rattle.wy_prove_rounds.proofs.expanding.add_products.Goals as goal

pub write_products-requires-clause-known : goal.write_products-requires-clause-known
write_products-requires-clause-known c =
    let le : c.len.result ≤ length c.args.terms.now = omega arith in
    c.no_forms-known.ensures c.args.terms.now le

pub products_of-requires-clause-branch : goal.products_of-requires-clause-branch
products_of-requires-clause-branch c = branch_stays c.args.terms.now c.write_products.new.terms c.args.branch.now c.in_ok-write_products.ensures.stays c.requires.branch

pub add_all-requires-clause-formulas : goal.add_all-requires-clause-formulas
add_all-requires-clause-formulas c = subst (AreBelow (length c.products_of.new.terms)) (sym c.deref.ensures.value) c.in_ok-products.ensures.below

pub add_all-requires-clause-branch : goal.add_all-requires-clause-branch
add_all-requires-clause-branch c = branch_stays c.args.terms.now c.products_of.new.terms c.args.branch.now (stays_on c.args.terms.now c.write_products.new.terms c.products_of.new.terms c.in_ok-write_products.ensures.stays c.in_ok-products.ensures.stays) c.requires.branch

pub returns-clause-seen : goal.returns-clause-seen
returns-clause-seen c =
    let old = c.args.terms.now in
    let mid = c.write_products.new.terms in
    let new = c.products_of.new.terms in
    let b = c.args.branch.now in
    let fs = map (tree_at new) c.in_ok-products.products.items in
    let first = c.in_ok-write_products.ensures.stays in
    let middle = branch_stays old mid b first c.requires.branch in
    on_ok c.add_all.result _ _ (λ is.
    with_stated (seen_branch (tree_at mid) b) (seen_branch (tree_at new) b) _ (seen_branch (tree_at new) c.add_all.new.branch) fs
    (node_stays mid new b c.in_ok-products.ensures.stays middle)
    (is ∙ ap (λ (ks : List ℕ). with_formulas (seen_branch (tree_at new) b) (map (tree_at new) ks)) c.deref.ensures.value)
    c.in_ok-products.ensures.value
    ∙ ap with_products (node_stays old mid b first c.requires.branch)) c.add_all.ensures.value

pub returns-clause-value : goal.returns-clause-value
returns-clause-value c = λ types beside.
    let old = c.args.terms.now in
    let mid = c.write_products.new.terms in
    let new = c.products_of.new.terms in
    let node = seen_branch (tree_at old) c.args.branch.now in
    let made = seen_branch (tree_at new) c.add_all.new.branch in
    let first = seen_draft (tree_at old) c.args.draft.now in
    let second = seen_draft (tree_at mid) c.write_products.new.draft in
    let kept = seen_draft_stays mid new c.write_products.new.draft c.in_ok-products.ensures.stays c.in_ok-write_products.ensures.draft in
    let moves = c.in_ok-write_products.ensures.value types beside.sorted beside.folded in
    on_ok c.add_all.result _ _ (λ is. subst (λ (d : Progress). Reaches types (begun made) first d) (sym kept) (products_reach types node made first second is beside (moves.each node (beside_along types (begun node) first beside)))) (returns-clause-seen c)

pub returns-clause-draft : goal.returns-clause-draft
returns-clause-draft c = on_ok_anyway _ c.add_all.result (draft_stays c.write_products.new.terms c.products_of.new.terms c.write_products.new.draft c.in_ok-products.ensures.stays c.in_ok-write_products.ensures.draft)

pub returns-clause-stays : goal.returns-clause-stays
returns-clause-stays c = stays_on c.args.terms.now c.write_products.new.terms c.products_of.new.terms c.in_ok-write_products.ensures.stays c.in_ok-products.ensures.stays
