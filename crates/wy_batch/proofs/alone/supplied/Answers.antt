use Rattle.wy_cert.specs.Steps.{certificates_of}
use Rattle.wy_term.specs.Condition.{condition_of}
use Rattle.wy_batch.proofs.JudgedLemmas.{given_count}
use Rattle.wy_batch.proofs.alone.supplied.Goals as goal

pub returns-clause-count : goal.returns-clause-count
returns-clause-count c = given_count (condition_of c.args.terms.now) (certificates_of c.args.certs.now) c.args.conds.now c.in_ok-given.given.items c.in_ok-given.ensures.value
