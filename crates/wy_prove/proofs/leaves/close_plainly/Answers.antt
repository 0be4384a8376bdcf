use Rattle.std.proofs.Common.{◌≡◌, true, false, sym, subst, rules}
use Rattle.std.specs.Prelude.{IfOk}
use Rattle.wy_term.specs.Nodes.{tree_at}
use Rattle.wy_facts.proofs.StepLemmas.{stays_on}
use Rattle.wy_prove_rounds.specs.wy_check_spec.judge.Node.{Node}
use Rattle.wy_prove_explaining.specs.wy_check_nodes.Seen.{seen_branch}
use Rattle.wy_prove_explaining.proofs.wy_check_nodes_proofs.SumsBranchLemmas.{branch_stays, node_stays}
use Rattle.wy_prove_rounds.specs.wy_prove_drafts.Draft.{seen_draft}
use Rattle.wy_prove_leaves.specs.linked.Linked.{AreLinkedClasses, IsBase, LinksOrEnds}
use Rattle.wy_prove_leaves.specs.stated_sums.Refuted.{EndsIfRefuted}
use Rattle.wy_prove.proofs.LeafLemmas.{base_on, plainly_ok}
use Rattle.wy_prove.proofs.leaves.close_plainly.Goals as goal

pub returns-then-branch-clause-value : goal.returns-then-branch-clause-value
returns-then-branch-clause-value c = λ types base leaf.
    let old = c.args.terms.now in
    let a = seen_draft (tree_at old) c.args.draft.now in
    let b = seen_draft (tree_at c.close_by_classes.new.terms) c.close_by_classes.new.draft in
    let up : c.in_ok-close_by_classes.field-0 ≡ true = search rules in
    subst (LinksOrEnds types (seen_branch (tree_at old) c.args.base.now) a b) up (c.in_ok-close_by_classes.ensures.value types base)

pub close_by_elimination-requires-clause-base : goal.close_by_elimination-requires-clause-base
close_by_elimination-requires-clause-base c = branch_stays c.args.terms.now c.close_by_classes.new.terms c.args.base.now c.in_ok-close_by_classes.ensures.stays c.requires.base

pub returns-clause-value : goal.returns-clause-value
returns-clause-value c = λ types base leaf.
    let old = c.args.terms.now in
    let mid = c.close_by_classes.new.terms in
    let node = seen_branch (tree_at old) c.args.base.now in
    let a = seen_draft (tree_at old) c.args.draft.now in
    let b = seen_draft (tree_at mid) c.close_by_classes.new.draft in
    let d = seen_draft (tree_at c.close_by_elimination.new.terms) c.close_by_elimination.new.draft in
    let un : c.in_ok-close_by_classes.field-0 ≡ false = search rules in
    let h = subst (LinksOrEnds types node a b) un (c.in_ok-close_by_classes.ensures.value types base) in
    let same : seen_branch (tree_at mid) c.args.base.now ≡ node = node_stays old mid c.args.base.now c.in_ok-close_by_classes.ensures.stays c.requires.base in
    plainly_ok c.close_by_elimination.result types node a b d h.0 h.2 leaf
    (subst (λ (n : Node). IfOk c.close_by_elimination.result (EndsIfRefuted types n b d)) same
    (c.close_by_elimination.ensures.value types (subst (λ (n : Node). IsBase n b.node) (sym same) (base_on types node a b h.0 base)) (subst (λ (n : Node). AreLinkedClasses n b.node) (sym same) h.1)))

pub returns-clause-stays : goal.returns-clause-stays
returns-clause-stays c = stays_on c.args.terms.now c.close_by_classes.new.terms c.close_by_elimination.new.terms c.in_ok-close_by_classes.ensures.stays c.close_by_elimination.ensures.stays
