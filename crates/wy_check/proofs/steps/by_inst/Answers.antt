use Rattle.std.proofs.Common.{length}
use Rattle.std.specs.Prelude.{option_map}
use Rattle.wy_term.specs.Nodes.{tree_at}
use Rattle.wy_facts.proofs.StepLemmas.{stays_on}
use Rattle.wy_check_splits.specs.wy_check_nodes.Seen.{seen_branch}
use Rattle.wy_check_splits.proofs.wy_check_nodes_proofs.SumsBranchLemmas.{branch_stays, node_stays}
use Rattle.wy_check.proofs.StepLemmas.{ok_with, inst_led}
use Rattle.wy_check.proofs.steps.by_inst.Goals as goal

pub instance_stated-requires-clause-branch : goal.instance_stated-requires-clause-branch
instance_stated-requires-clause-branch c = branch_stays c.args.terms.now c.brought.new.terms c.args.branch.now c.in_ok-term.ensures.stays c.requires.branch

pub returns-clause-value : goal.returns-clause-value
returns-clause-value c = λ types.
    let old = c.args.terms.now in
    let mid = c.brought.new.terms in
    let at = tree_at c.instance_stated.new.terms in
    let b = c.args.branch.now in
    let node = seen_branch (tree_at old) b in
    let same = node_stays old mid b c.in_ok-term.ensures.stays c.requires.branch in
    ok_with at node c.adds_one.result _ _ (c.adds_one.ensures.value at node) (inst_led types node (seen_branch (tree_at mid) b) c.args.i (tree_at mid c.in_ok-term.term) (tree_at c.args.from.now c.args.t) (option_map at c.in_ok-stated.stated) same c.in_ok-term.ensures.value c.in_ok-stated.ensures.value)

pub returns-clause-stays : goal.returns-clause-stays
returns-clause-stays c = stays_on c.args.terms.now c.brought.new.terms c.instance_stated.new.terms c.in_ok-term.ensures.stays c.in_ok-stated.ensures.stays

pub returns-clause-within : goal.returns-clause-within
returns-clause-within c = c.adds_one.ensures.within (length c.instance_stated.new.terms) c.in_ok-stated.ensures.within
