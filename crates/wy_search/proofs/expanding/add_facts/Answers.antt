use Rattle.std.proofs.Common.{◌∙◌, ℕ, List, length, map, sym, ap, subst}
use Rattle.std.proofs.lemmas.Result.{IfOk-weaker}
use Rattle.wy_term.specs.Nodes.{tree_at}
use Rattle.wy_facts.specs.Seen.{AreBelow}
use Rattle.wy_search_facts.specs.wy_check_spec.judge.Node.{with_formulas}
use Rattle.wy_check_nodes.specs.Seen.{seen_branch}
use Rattle.wy_check_nodes.proofs.SumsBranchLemmas.{branch_stays, node_stays}
use Rattle.wy_search.proofs.RoundLemmas.{with_stated}
use Rattle.wy_search.proofs.expanding.add_facts.Goals as goal

pub add_all-requires-clause-formulas : goal.add_all-requires-clause-formulas
add_all-requires-clause-formulas c = subst (AreBelow (length c.facts_of.new.terms)) (sym c.deref.ensures.value) c.in_ok-facts.ensures.below

pub add_all-requires-clause-branch : goal.add_all-requires-clause-branch
add_all-requires-clause-branch c = branch_stays c.args.terms.now c.facts_of.new.terms c.args.branch.now c.in_ok-facts.ensures.stays c.requires.branch

pub returns-clause-value : goal.returns-clause-value
returns-clause-value c =
    let old = c.args.terms.now in
    let new = c.facts_of.new.terms in
    let fs = map (tree_at new) c.in_ok-facts.facts.items in
    IfOk-weaker c.add_all.result _ _ (λ u is.
    with_stated (seen_branch (tree_at old) c.args.branch.now) (seen_branch (tree_at new) c.args.branch.now) _ (seen_branch (tree_at new) c.add_all.new.branch) fs
    (node_stays old new c.args.branch.now c.in_ok-facts.ensures.stays c.requires.branch)
    (is ∙ ap (λ (ks : List ℕ). with_formulas (seen_branch (tree_at new) c.args.branch.now) (map (tree_at new) ks)) c.deref.ensures.value)
    c.in_ok-facts.ensures.value) c.add_all.ensures.value
