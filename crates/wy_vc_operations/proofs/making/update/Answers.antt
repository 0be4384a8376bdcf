use Rattle.wy_term.specs.Term as term
use Rattle.wy_vc_operations.proofs.GrowingLemmas.{by_three}
use Rattle.wy_vc_operations.proofs.making.update.Goals as goal

pub returns-clause-made : goal.returns-clause-made
returns-clause-made c = λ v s w hv hs hw. by_three c.put.result c.args.terms.now c.put.new.terms term.update c.args.array c.args.index c.args.value v s w c.put.ensures.made hv hs hw
