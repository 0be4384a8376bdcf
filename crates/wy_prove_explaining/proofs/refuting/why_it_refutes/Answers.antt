use Rattle.wy_check_nodes.proofs.SumsBranchLemmas.{branch_stays}
use Rattle.wy_prove_explaining.proofs.refuting.why_it_refutes.Goals as goal

pub by_sources-requires-clause-branch : goal.by_sources-requires-clause-branch
by_sources-requires-clause-branch c = branch_stays c.args.terms.now c.sources_of.new.terms c.args.branch.now c.in_ok-sources.ensures c.requires.branch
