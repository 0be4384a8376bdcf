use Rattle.std.proofs.Common.{ℤ, subst}
use Rattle.std.specs.Int.{w128}
use Rattle.std.proofs.lemmas.Int.{to_z-of_z}
use Rattle.wy_vc_spec.specs.Making as made
use Rattle.wy_vc_operations.specs.Growing.{Makes}
use Rattle.wy_vc_operations.proofs.GrowingLemmas.{onward_if}
use Rattle.wy_vc_operations.proofs.operations.whole.Goals as goal

pub returns-clause-made : goal.returns-clause-made
returns-clause-made c =
    let m = subst (λ (z : ℤ). Makes c.args.terms.now c.number_of.new.terms c.in_ok-term.term (made.number_of z)) (to_z-of_z w128 c.args.number c.ranges.number) c.in_ok-term.ensures.made in
    onward_if c.int.result _ _ _ _ m.kept (c.int.ensures.made _ m.here)
