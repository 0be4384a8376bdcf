use Rattle.std.proofs.Common.{◌≡◌, ◌∙◌, ap₂}
use Rattle.wy_lemmas.proofs.Options.{on_ok}
use Rattle.wy_search_facts.proofs.instances.with_instance.Goals as goal
use Rattle.wy_cong.specs.wy_check_spec.judge.Node.{added}
use Rattle.wy_check_nodes.proofs.SumsBranchLemmas.{branch_stays, node_stays}

pub add-requires-clause-branch : goal.add-requires-clause-branch
add-requires-clause-branch c = branch_stays c.args.terms.now c.instance_at.new.terms c.args.branch.now c.in_ok-f.ensures.stays c.requires.branch

pub returns-clause-value : goal.returns-clause-value
returns-clause-value c =
    on_ok c.add.result _ _ (λ is. is ∙ ap₂ added (node_stays c.args.terms.now c.instance_at.new.terms c.args.branch.now c.in_ok-f.ensures.stays c.requires.branch) c.in_ok-f.ensures.value) c.add.ensures.value
