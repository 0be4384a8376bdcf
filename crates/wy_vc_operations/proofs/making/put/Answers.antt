use Rattle.wy_vc_operations.proofs.GrowingLemmas.{makes_of}
use Rattle.wy_vc_operations.proofs.making.put.Goals as goal

pub returns-clause-made : goal.returns-clause-made
returns-clause-made c = makes_of c.intern.result c.args.terms.now c.intern.new.self _ c.intern.ensures.tree c.intern.ensures.within c.intern.ensures.kept c.intern.ensures.grows
