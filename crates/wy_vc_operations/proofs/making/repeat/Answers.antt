use Rattle.wy_term.specs.Term as term
use Rattle.wy_vc_operations.proofs.GrowingLemmas.{by_two}
use Rattle.wy_vc_operations.proofs.making.repeat.Goals as goal

pub returns-clause-made : goal.returns-clause-made
returns-clause-made c = λ v s hv hs. by_two c.put.result c.args.terms.now c.put.new.terms term.repeat c.args.item c.args.count v s c.put.ensures.made hv hs
