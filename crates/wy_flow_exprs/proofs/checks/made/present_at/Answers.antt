use Rattle.wy_flow_exprs.proofs.checks_lemmas.AnswerLemmas.{owned, unowned}
use Rattle.wy_flow_exprs.proofs.checks.made.present_at.Goals as goal

pub returns-in-Some-clause-value : goal.returns-in-Some-clause-value
returns-in-Some-clause-value c = owned c.args.made c.in-Some.ty c.shared_at.result c.in-Some.is c.shared_at.ensures.value

pub returns-in-Some-clause-err : goal.returns-in-Some-clause-err
returns-in-Some-clause-err c = unowned c.args.made c.args.at c.shared_at.result c.shared_at.ensures.err
