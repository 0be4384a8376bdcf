use Rattle.wy_term.specs.Term as term
use Rattle.wy_vc_operations.proofs.GrowingLemmas.{by_one}
use Rattle.wy_vc_operations.proofs.making.neg.Goals as goal

pub returns-clause-made : goal.returns-clause-made
returns-clause-made c = λ s hs. by_one c.put.result c.args.terms.now c.put.new.terms term.neg c.args.number s c.put.ensures.made hs
