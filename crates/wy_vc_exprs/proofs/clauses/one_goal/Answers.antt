use Rattle.wy_vc_exprs.proofs.ClauseLemmas.{made_one}
use Rattle.wy_vc_exprs.proofs.MakingLemmas.{below_one}
use Rattle.wy_vc_exprs.proofs.clauses.one_goal.Goals as goal

pub returns-clause-within : goal.returns-clause-within
returns-clause-within c = below_one _ _ _ c.in_ok-from_slice.ensures.items c.in_ok-goal.ensures.within

pub returns-clause-made : goal.returns-clause-made
returns-clause-made c = λ d slots hs. made_one _ _ _ _ _ c.in_ok-from_slice.ensures.items (c.in_ok-goal.ensures.made d slots hs)
