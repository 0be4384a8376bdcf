use Rattle.wy_check_nodes.proofs.SumsBranchLemmas.{branch_stays}
use Rattle.wy_prove_explaining.proofs.refuting.by_steps.Goals as goal

pub push_chains-requires-clause-branch : goal.push_chains-requires-clause-branch
push_chains-requires-clause-branch c = branch_stays c.args.terms.now c.used_literals.new.terms c.args.branch.now c.in_ok-all.ensures c.requires.branch
