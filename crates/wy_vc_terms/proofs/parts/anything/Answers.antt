use Rattle.std.proofs.Common.{[], ℕ, List, subst, sym}
use Rattle.wy_vc_operations.specs.Growing.{AreAt}
use Rattle.wy_vc_operations.proofs.GrowingLemmas.{none_at}
use Rattle.wy_vc_terms.proofs.parts.anything.Goals as goal

pub returns-clause-made : goal.returns-clause-made
returns-clause-made c = c.conjunction.ensures.made [] (subst (λ (ks : List ℕ). AreAt c.args.terms.now ks []) (sym c.new.ensures.items) (none_at c.args.terms.now))
