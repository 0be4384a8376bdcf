use Rattle.std.proofs.Common.{Bool, IfOk, subst, sym}
use Rattle.wy_vc_spec.specs.Making as made
use Rattle.wy_vc_operations.specs.Growing.{Makes}
use Rattle.wy_vc_operations.proofs.operations.bound.Goals as goal

pub returns-then-all-clause-made : goal.returns-then-all-clause-made
returns-then-all-clause-made c = λ s t f hs ht hf.
    subst (λ (b : Bool). IfOk c.every.result (λ r. Makes c.args.terms.now c.every.new.terms r (made.bound b c.args.word.now c.args.number s t f))) (sym c.if-all.true) (c.every.ensures.made s t f hs ht hf)

pub returns-else-all-clause-made : goal.returns-else-all-clause-made
returns-else-all-clause-made c = λ s t f hs ht hf.
    subst (λ (b : Bool). IfOk c.exists.result (λ r. Makes c.args.terms.now c.exists.new.terms r (made.bound b c.args.word.now c.args.number s t f))) (sym c.if-all.false) (c.exists.ensures.made s t f hs ht hf)
