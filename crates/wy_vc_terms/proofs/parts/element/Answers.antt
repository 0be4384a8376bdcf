use Rattle.std.proofs.Common.{ℕ, List, IfOk, subst}
use Rattle.wy_vc_tables.specs.wy_vc_spec.Making as made
use Rattle.wy_vc_operations.specs.Growing.{Makes}
use Rattle.wy_vc_operations.proofs.GrowingLemmas.{here_kept, onward_if}
use Rattle.wy_vc_terms.proofs.parts.element.Goals as goal

pub returns-clause-made : goal.returns-clause-made
returns-clause-made c = λ t at.
    let n = c.in_ok-name.ensures.made in
    subst (λ (w : List ℕ). IfOk c.get.result (λ r. Makes c.args.terms.now c.get.new.terms r (made.get t (made.int_name w c.args.number)))) c.in_ok-word.ensures.value
    (onward_if c.get.result _ _ _ _ n.kept (c.get.ensures.made _ _ (here_kept n.kept at) n.here))
