use Rattle.wy_term.specs.Condition.{condition_of}
use Rattle.wy_batch.proofs.JudgedLemmas.{found_there, open_there, spent_there}
use Rattle.wy_batch.proofs.judging.searched.Goals as goal

pub returns-in-Found-clause-value : goal.returns-in-Found-clause-value
returns-in-Found-clause-value c = found_there (condition_of c.args.terms.now c.args.cond.now) c.args.budget c.in-Found.leaves c.in_ok-verdict.verdict c.in-Found.is c.in_ok-verdict.ensures.verdict

pub returns-in-Open-clause-value : goal.returns-in-Open-clause-value
returns-in-Open-clause-value c = open_there (condition_of c.args.terms.now c.args.cond.now) c.args.budget c.in-Open.leaf c.in_ok-verdict.verdict c.in-Open.is c.in_ok-verdict.ensures.verdict c.in_ok-verdict.ensures.within

pub returns-in-Spent-clause-value : goal.returns-in-Spent-clause-value
returns-in-Spent-clause-value c = spent_there (condition_of c.args.terms.now c.args.cond.now) c.args.budget c.in_ok-verdict.verdict c.in-Spent.is c.in_ok-verdict.ensures.verdict
