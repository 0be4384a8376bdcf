use Rattle.std.proofs.Common.{sym}
use Rattle.wy_term.proofs.NodesLemmas.{AreNodes-take, kept_cut}
use Rattle.wy_term.proofs.terms.Terms.back_to.Goals as goal

pub invariant_of-self : goal.invariant_of-self
invariant_of-self c = AreNodes-take _ _ _ c.self.invariant c.cut.ensures

pub returns-clause-kept : goal.returns-clause-kept
returns-clause-kept c = kept_cut _ _ _ _ _ (sym c.self.view_is) c.mark.view_is c.requires c.cut.ensures
