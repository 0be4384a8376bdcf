use Rattle.wy_facts.proofs.StepLemmas.{stays_on}
use Rattle.wy_check_nodes.proofs.SumsBranchLemmas.{branch_stays}
use Rattle.wy_prove_explaining.proofs.sources.sources_of.Goals as goal

pub take_literal-requires-clause-branch : goal.take_literal-requires-clause-branch
take_literal-requires-clause-branch c = branch_stays c.args.terms.now c.loop-i.terms c.args.branch.now c.loop-i.invariant c.requires.branch

pub loop-i-preserved : goal.loop-i-preserved
loop-i-preserved c = stays_on c.args.terms.now c.loop-i.terms c.take_literal.new.terms c.loop-i.invariant c.in_ok-take_literal.ensures
