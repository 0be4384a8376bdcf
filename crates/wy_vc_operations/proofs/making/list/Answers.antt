use Rattle.wy_term.specs.Term as term
use Rattle.wy_vc_operations.proofs.GrowingLemmas.{by_all}
use Rattle.wy_vc_operations.proofs.making.list.Goals as goal

pub returns-clause-made : goal.returns-clause-made
returns-clause-made c = λ ts are. by_all c.put.result c.args.terms.now c.put.new.terms term.array c.args.items.items ts c.put.ensures.made are
