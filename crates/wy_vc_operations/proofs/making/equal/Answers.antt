use Rattle.wy_term.specs.Term as term
use Rattle.wy_vc_operations.proofs.GrowingLemmas.{by_two}
use Rattle.wy_vc_operations.proofs.making.equal.Goals as goal

pub returns-clause-made : goal.returns-clause-made
returns-clause-made c = λ v w hv hw. by_two c.put.result c.args.terms.now c.put.new.terms term.equal c.args.first c.args.second v w c.put.ensures.made hv hw
