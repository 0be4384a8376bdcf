use Rattle.std.proofs.Common.{rules}
use Rattle.wy_cong.proofs.LabelLemmas.{own_next}
use Rattle.wy_cong.proofs.labels.first_labels.Goals as goal

pub loop-number-preserved : goal.loop-number-preserved
loop-number-preserved c = own_next c.loop-number.number c.in-Ok.l c.loop-number.made.items c.push.new.self.items c.in_ok-push-in-Ok.ensures.items c.loop-number.invariant (search rules)
