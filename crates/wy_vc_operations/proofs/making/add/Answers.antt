use Rattle.wy_term.specs.Term as term
use Rattle.wy_vc_operations.proofs.GrowingLemmas.{by_two}
use Rattle.wy_vc_operations.proofs.making.add.Goals as goal

pub returns-clause-made : goal.returns-clause-made
returns-clause-made c = λ s t hs ht. by_two c.put.result c.args.terms.now c.put.new.terms term.add c.args.first c.args.second s t c.put.ensures.made hs ht
