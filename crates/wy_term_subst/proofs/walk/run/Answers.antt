use Rattle.std.proofs.Common.{◌≡◌, subst}
use Rattle.wy_term_subst.specs.declared.walk.Next.{Next}
use Rattle.wy_term_subst.specs.declared.walk.Next.TheVariants as next
use Rattle.wy_term_subst.specs.Walk.{Leads}
use Rattle.wy_term_subst.proofs.walk.run.Goals as goal

pub returns-in-Whole-clause-value : goal.returns-in-Whole-clause-value
returns-in-Whole-clause-value c = λ u base ask avoids g.
    let is : c.in_ok-next.field-0 ≡ next.Whole c.in-Whole.image = cc in
    subst (λ (n : Next). Leads c.step.new.terms c.step.new.walk u base ask n) is (c.in_ok-next.ensures.leads u base ask avoids (c.loop-turn.invariant.leads u base ask avoids g))
