use Rattle.std.proofs.Common.{ℕ, List, IfOk, subst}
use Rattle.wy_vc_spec.specs.Making as made
use Rattle.wy_vc_operations.specs.Growing.{Makes}
use Rattle.wy_term.specs.Term as term
use Rattle.wy_vc_operations.proofs.GrowingLemmas.{by_one}
use Rattle.wy_vc_operations.proofs.making.field.Goals as goal

pub returns-clause-made : goal.returns-clause-made
returns-clause-made c = λ v hv.
    subst (λ (w : List ℕ). IfOk c.put.result (λ r. Makes c.args.terms.now c.put.new.terms r (made.field w v))) c.in_ok-name.ensures.value (by_one c.put.result c.args.terms.now c.put.new.terms (term.field c.in_ok-name.name) c.args.whole v c.put.ensures.made hv)
