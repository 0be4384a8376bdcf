use Rattle.std.proofs.Common.{Bool, IfOk, subst, sym}
use Rattle.wy_vc_spec.specs.Operations as spec
use Rattle.wy_vc_operations.specs.Growing.{Makes}
use Rattle.wy_vc_operations.proofs.operations.equality.Goals as goal

pub returns-then-are_numbers-clause-made : goal.returns-then-are_numbers-clause-made
returns-then-are_numbers-clause-made c = λ v w hv hw.
    subst (λ (b : Bool). IfOk c.equal_numbers.result (λ r. Makes c.args.terms.now c.equal_numbers.new.terms r (spec.equality b v w))) (sym c.if-are_numbers.true) (c.equal_numbers.ensures.made v w hv hw)

pub returns-else-are_numbers-clause-made : goal.returns-else-are_numbers-clause-made
returns-else-are_numbers-clause-made c = λ v w hv hw.
    subst (λ (b : Bool). IfOk c.equal_data.result (λ r. Makes c.args.terms.now c.equal_data.new.terms r (spec.equality b v w))) (sym c.if-are_numbers.false) (c.equal_data.ensures.made v w hv hw)
