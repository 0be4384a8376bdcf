use Rattle.std.proofs.Common.{ℕ, List, IfOk, subst, true, false}
use Rattle.wy_vc_spec.specs.Making as made
use Rattle.wy_vc_operations.specs.Growing.{Makes}
use Rattle.wy_term.specs.Term as term
use Rattle.wy_vc_operations.proofs.GrowingLemmas.{by_three}
use Rattle.wy_vc_operations.proofs.making.exists.Goals as goal

pub returns-clause-made : goal.returns-clause-made
returns-clause-made c = λ s t f hs ht hf.
    subst (λ (w : List ℕ). IfOk c.put.result (λ r. Makes c.args.terms.now c.put.new.terms r (made.bound false w c.args.number s t f))) c.in_ok-word.ensures.value (by_three c.put.result c.args.terms.now c.put.new.terms (term.exists c.in_ok-word.word c.args.number) c.args.from c.args.below c.args.body s t f c.put.ensures.made hs ht hf)
