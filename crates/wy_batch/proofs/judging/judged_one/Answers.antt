use Rattle.wy_term.specs.Condition.{condition_of}
use Rattle.wy_batch.proofs.JudgedLemmas.{bad_judged, missing_judged, supplied_judged}
use Rattle.wy_batch.proofs.judging.judged_one.Goals as goal

pub returns-in-Supplied-clause-value : goal.returns-in-Supplied-clause-value
returns-in-Supplied-clause-value c = supplied_judged (condition_of c.args.terms.now c.args.cond.now) c.args.budget c.args.given c.in-Supplied.is

pub returns-in_ok-end-in-Missing-clause-value : goal.returns-in_ok-end-in-Missing-clause-value
returns-in_ok-end-in-Missing-clause-value c = missing_judged (condition_of c.args.terms.now c.args.cond.now) c.args.budget c.args.given c.in-Missing.is c.in_ok-end-in-Missing.end c.in_ok-end-in-Missing.ensures.value

pub returns-in_ok-end-in-Bad-clause-value : goal.returns-in_ok-end-in-Bad-clause-value
returns-in_ok-end-in-Bad-clause-value c = bad_judged (condition_of c.args.terms.now c.args.cond.now) c.args.budget c.in-Bad.step c.args.given c.in-Bad.is c.in_ok-end-in-Bad.end c.in_ok-end-in-Bad.ensures.value
