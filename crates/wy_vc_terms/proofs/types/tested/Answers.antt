use Rattle.wy_vc_terms.proofs.MadeLemmas.{plainly}
use Rattle.wy_vc_terms.proofs.types.tested.Goals as goal

pub returns-clause-made : goal.returns-clause-made
returns-clause-made c = λ t at. plainly (c.in_ok-term.ensures.made t at)
