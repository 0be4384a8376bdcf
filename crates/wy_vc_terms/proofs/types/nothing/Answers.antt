use Rattle.std.proofs.Common.{ℕ, List, [], ◌∷◌, subst, sym}
use Rattle.wy_vc_tables.specs.wy_vc_spec.Making.{falsehood}
use Rattle.wy_vc_operations.specs.Growing.{AreAt}
use Rattle.wy_vc_operations.proofs.GrowingLemmas.{none_at, more_at}
use Rattle.wy_vc_terms.proofs.MadeLemmas.{plainly}
use Rattle.wy_vc_operations.proofs.GrowingLemmas.{onward}
use Rattle.wy_vc_terms.proofs.types.nothing.Goals as goal

pub returns-clause-made : goal.returns-clause-made
returns-clause-made c =
    let n = c.in_ok-none.ensures.made in
    let m = c.in_ok-term.ensures.made (falsehood ∷ []) (subst (λ (ks : List ℕ). AreAt c.falsehood.new.terms ks (falsehood ∷ [])) (sym c.in_ok-parts.ensures.items) (more_at n.here (none_at c.falsehood.new.terms))) in
    plainly (onward n.kept m)
