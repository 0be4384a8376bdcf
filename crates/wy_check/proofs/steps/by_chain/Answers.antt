use Rattle.std.proofs.Common.{ap, ◌∙◌}
use Rattle.std.specs.Prelude.{option_map}
use Rattle.wy_term.specs.Nodes.{tree_at}
use Rattle.wy_facts.specs.Seen.{terms_at}
use Rattle.wy_facts.proofs.StepLemmas.{stays_on}
use Rattle.wy_check_splits.specs.wy_check_nodes.Seen.{seen_branch}
use Rattle.wy_check_splits.proofs.wy_check_nodes_proofs.SumsBranchLemmas.{branch_stays, node_stays}
use Rattle.wy_check.proofs.StepLemmas.{chain_led}
use Rattle.wy_check.proofs.steps.by_chain.Goals as goal

pub chain_stated-requires-clause-branch : goal.chain_stated-requires-clause-branch
chain_stated-requires-clause-branch c = branch_stays c.args.terms.now c.all_brought.new.terms c.args.branch.now c.in_ok-chain.ensures.stays c.requires.branch

pub returns-clause-value : goal.returns-clause-value
returns-clause-value c = λ types.
    let old = c.args.terms.now in
    let mid = c.all_brought.new.terms in
    let new = c.chain_stated.new.terms in
    let b = c.args.branch.now in
    let node = seen_branch (tree_at old) b in
    let same = node_stays old mid b c.in_ok-chain.ensures.stays c.requires.branch in
    c.adds.ensures.value new node
    ∙ chain_led types node (seen_branch (tree_at mid) b) (terms_at mid c.deref.result.now) (terms_at c.args.from.now c.args.all.now) (option_map (λ fs. terms_at new fs.items) c.in_ok-stated.stated) same (ap (terms_at mid) c.deref.ensures.value ∙ c.in_ok-chain.ensures.value) c.in_ok-stated.ensures.value

pub returns-clause-stays : goal.returns-clause-stays
returns-clause-stays c = stays_on c.args.terms.now c.all_brought.new.terms c.chain_stated.new.terms c.in_ok-chain.ensures.stays c.in_ok-stated.ensures.stays
