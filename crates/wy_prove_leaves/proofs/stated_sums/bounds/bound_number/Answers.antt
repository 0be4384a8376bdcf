use Rattle.std.proofs.Common.{◌∙◌, subst}
use Rattle.std.proofs.lemmas.Result.{IfOk-weaker}
use Rattle.wy_term.specs.Term.{Term}
use Rattle.wy_term.specs.Nodes.{tree_at}
use Rattle.wy_facts.specs.Seen.{Stays}
use Rattle.wy_prove_drafts.specs.wy_check_spec.judge.Node.{Node}
use Rattle.wy_prove_drafts.specs.wy_check_nodes.Seen.{seen_branch}
use Rattle.wy_prove_drafts.proofs.wy_check_nodes_proofs.SumsBranchLemmas.{branch_stays, node_stays}
use Rattle.wy_prove_leaves.specs.stated_sums.Named.{holding, HasNumber}
use Rattle.wy_prove_leaves.proofs.stated_sums_lemmas.StatingLemmas.{has_number}
use Rattle.wy_prove_leaves.proofs.stated_sums.bounds.bound_number.Goals as goal

pub literal_number-requires-clause-branch : goal.literal_number-requires-clause-branch
literal_number-requires-clause-branch c =
    branch_stays c.args.terms.now c.intern.new.self c.args.draft.now.branch (record { grows = c.in_ok-atom.ensures.grows; trees = c.in_ok-atom.ensures.kept }) c.requires.draft.branch

pub returns-clause-value : goal.returns-clause-value
returns-clause-value c = λ made.
    let old = c.args.terms.now in
    let now = c.intern.new.self in
    let branch = c.args.draft.now.branch in
    let stays : Stays old now = record { grows = c.in_ok-atom.ensures.grows; trees = c.in_ok-atom.ensures.kept } in
    let same = node_stays old now branch stays c.requires.draft.branch in
    let atom = c.in_ok-atom.ensures.tree ∙ made in
    let found = has_number (seen_branch (tree_at now) branch).literals (holding (tree_at now c.in_ok-atom.atom)) c.literal_number.result c.literal_number.ensures.there c.literal_number.ensures.lacking in
    IfOk-weaker c.literal_number.result _ _
    (λ o h.
    subst (λ (t : Term). HasNumber (seen_branch (tree_at old) branch).literals (holding t) o) atom
    (subst (λ (n : Node). HasNumber n.literals (holding (tree_at now c.in_ok-atom.atom)) o) same h))
    found
