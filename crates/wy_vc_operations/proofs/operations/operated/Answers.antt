use Rattle.std.proofs.Common.{IfOk, subst, sym}
use Rattle.wy_core.specs.declared.expressions.Op.{Op}
use Rattle.wy_vc_spec.specs.Operations as spec
use Rattle.wy_vc_operations.specs.Growing.{Makes}
use Rattle.wy_vc_operations.proofs.operations.operated.Goals as goal

pub returns-in-Add-clause-made : goal.returns-in-Add-clause-made
returns-in-Add-clause-made c = λ v w hv hw.
    subst (λ (o : Op). IfOk c.sum.result (λ r. Makes c.args.terms.now c.sum.new.terms r (spec.operated o c.args.are_numbers v w))) (sym c.in-Add.is) (c.sum.ensures.made v w hv hw)

pub returns-in-Sub-clause-made : goal.returns-in-Sub-clause-made
returns-in-Sub-clause-made c = λ v w hv hw.
    subst (λ (o : Op). IfOk c.difference.result (λ r. Makes c.args.terms.now c.difference.new.terms r (spec.operated o c.args.are_numbers v w))) (sym c.in-Sub.is) (c.difference.ensures.made v w hv hw)

pub returns-in-Mul-clause-made : goal.returns-in-Mul-clause-made
returns-in-Mul-clause-made c = λ v w hv hw.
    subst (λ (o : Op). IfOk c.product.result (λ r. Makes c.args.terms.now c.product.new.terms r (spec.operated o c.args.are_numbers v w))) (sym c.in-Mul.is) (c.product.ensures.made v w hv hw)

pub returns-in-Div-clause-made : goal.returns-in-Div-clause-made
returns-in-Div-clause-made c = λ v w hv hw.
    subst (λ (o : Op). IfOk c.quotient.result (λ r. Makes c.args.terms.now c.quotient.new.terms r (spec.operated o c.args.are_numbers v w))) (sym c.in-Div.is) (c.quotient.ensures.made v w hv hw)

pub returns-in-Mod-clause-made : goal.returns-in-Mod-clause-made
returns-in-Mod-clause-made c = λ v w hv hw.
    subst (λ (o : Op). IfOk c.remainder.result (λ r. Makes c.args.terms.now c.remainder.new.terms r (spec.operated o c.args.are_numbers v w))) (sym c.in-Mod.is) (c.remainder.ensures.made v w hv hw)

pub returns-in-Equal-clause-made : goal.returns-in-Equal-clause-made
returns-in-Equal-clause-made c = λ v w hv hw.
    subst (λ (o : Op). IfOk c.equality.result (λ r. Makes c.args.terms.now c.equality.new.terms r (spec.operated o c.args.are_numbers v w))) (sym c.in-Equal.is) (c.equality.ensures.made v w hv hw)

pub returns-in-Less-clause-made : goal.returns-in-Less-clause-made
returns-in-Less-clause-made c = λ v w hv hw.
    subst (λ (o : Op). IfOk c.less_than_data.result (λ r. Makes c.args.terms.now c.less_than_data.new.terms r (spec.operated o c.args.are_numbers v w))) (sym c.in-Less.is) (c.less_than_data.ensures.made v w hv hw)

pub returns-in-LessEqual-clause-made : goal.returns-in-LessEqual-clause-made
returns-in-LessEqual-clause-made c = λ v w hv hw.
    subst (λ (o : Op). IfOk c.at_most_data.result (λ r. Makes c.args.terms.now c.at_most_data.new.terms r (spec.operated o c.args.are_numbers v w))) (sym c.in-LessEqual.is) (c.at_most_data.ensures.made v w hv hw)

pub returns-in-Greater-clause-made : goal.returns-in-Greater-clause-made
returns-in-Greater-clause-made c = λ v w hv hw.
    subst (λ (o : Op). IfOk c.less_than_data-in-Greater.result (λ r. Makes c.args.terms.now c.less_than_data-in-Greater.new.terms r (spec.operated o c.args.are_numbers v w))) (sym c.in-Greater.is) (c.less_than_data-in-Greater.ensures.made w v hw hv)

pub returns-in-GreaterEqual-clause-made : goal.returns-in-GreaterEqual-clause-made
returns-in-GreaterEqual-clause-made c = λ v w hv hw.
    subst (λ (o : Op). IfOk c.at_most_data-in-GreaterEqual.result (λ r. Makes c.args.terms.now c.at_most_data-in-GreaterEqual.new.terms r (spec.operated o c.args.are_numbers v w))) (sym c.in-GreaterEqual.is) (c.at_most_data-in-GreaterEqual.ensures.made w v hw hv)

pub returns-in-And-clause-made : goal.returns-in-And-clause-made
returns-in-And-clause-made c = λ v w hv hw.
    subst (λ (o : Op). IfOk c.both_true.result (λ r. Makes c.args.terms.now c.both_true.new.terms r (spec.operated o c.args.are_numbers v w))) (sym c.in-And.is) (c.both_true.ensures.made v w hv hw)

pub returns-in-Or-clause-made : goal.returns-in-Or-clause-made
returns-in-Or-clause-made c = λ v w hv hw.
    subst (λ (o : Op). IfOk c.either_true.result (λ r. Makes c.args.terms.now c.either_true.new.terms r (spec.operated o c.args.are_numbers v w))) (sym c.in-Or.is) (c.either_true.ensures.made v w hv hw)
