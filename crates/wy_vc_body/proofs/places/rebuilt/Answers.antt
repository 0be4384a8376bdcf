use Rattle.wy_vc_exprs.proofs.NumberedLemmas.{at_itself}
use Rattle.wy_vc_body.proofs.PlaceLemmas.{rebuilt_turn}
use Rattle.wy_vc_body.proofs.places.rebuilt.Goals as goal

pub loop-part-preserved : goal.loop-part-preserved
loop-part-preserved c =
    rebuilt_turn c.args.terms.now c.loop-part.terms c.with_part.new.terms c.loop-part.parts.items c.pop.new.self.items c.args.parts.items c.in-Some.part c.args.value c.loop-part.whole c.in_ok-whole.whole c.loop-part.invariant
    c.in-Some.ensures.items (c.in_ok-whole.ensures.made _ (at_itself c.loop-part.invariant.within))
