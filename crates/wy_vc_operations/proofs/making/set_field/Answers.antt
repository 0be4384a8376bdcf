use Rattle.std.proofs.Common.{ℕ, List, IfOk, subst}
use Rattle.wy_vc_spec.specs.Making as made
use Rattle.wy_vc_operations.specs.Growing.{Makes}
use Rattle.wy_term.specs.Term as term
use Rattle.wy_vc_operations.proofs.GrowingLemmas.{by_two}
use Rattle.wy_vc_operations.proofs.making.set_field.Goals as goal

pub returns-clause-made : goal.returns-clause-made
returns-clause-made c = λ v u hv hu.
    subst (λ (w : List ℕ). IfOk c.put.result (λ r. Makes c.args.terms.now c.put.new.terms r (made.of_two (term.set_field w) v u))) c.in_ok-name.ensures.value (by_two c.put.result c.args.terms.now c.put.new.terms (term.set_field c.in_ok-name.name) c.args.whole c.args.value v u c.put.ensures.made hv hu)
