use Rattle.wy_facts.proofs.StepLemmas.{stays_on}
use Rattle.wy_check_nodes.proofs.SumsBranchLemmas.{branch_stays}
use Rattle.wy_prove_explaining.proofs.used.used_literals.Goals as goal

pub push_used-requires-clause-branch : goal.push_used-requires-clause-branch
push_used-requires-clause-branch c = branch_stays c.args.terms.now c.loop-k.terms c.args.branch.now c.loop-k.invariant c.requires.branch

pub loop-k-preserved : goal.loop-k-preserved
loop-k-preserved c = stays_on c.args.terms.now c.loop-k.terms c.push_used.new.terms c.loop-k.invariant c.in_ok-push_used.ensures
