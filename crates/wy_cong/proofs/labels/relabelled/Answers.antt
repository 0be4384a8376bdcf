use Rattle.wy_cong.proofs.LabelLemmas.{moved_next}
use Rattle.wy_cong.proofs.labels.relabelled.Goals as goal

pub loop-l-preserved : goal.loop-l-preserved
loop-l-preserved c = moved_next c.args.from c.args.into c.args.labels.now c.loop-l.l-index c.moved.result c.loop-l.made.items c.push.new.self.items c.loop-l-test.true c.moved.ensures c.in_ok-push.ensures.items c.loop-l.invariant
