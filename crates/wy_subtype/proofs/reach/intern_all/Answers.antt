use Rattle.wy_subtype.proofs.NumberLemmas.{at_turn, keeps_more}
use Rattle.wy_subtype.proofs.reach.intern_all.Goals as goal

pub loop-c-preserved : goal.loop-c-preserved
loop-c-preserved c =
    let i = c.in_ok-grown.ensures.known in
    let v = c.loop-c.invariant in
    record {
      keeps = keeps_more c.args.conjuncts c.loop-c.conjuncts c.in_ok-grown.field-0.conjuncts v.keeps i.keeps;
      at = at_turn c.loop-c.conjuncts c.in_ok-grown.field-0.conjuncts i.keeps c.loop-c.numbers c.push.new.self c.args.list.now c.loop-c.c-index c.c-item.result c.in_ok-c.c c.in_ok-grown.field-0.number c.loop-c-test.true c.c-item.is c.in_ok-c.ensures.value c.in_ok-push.ensures.ok v.at i.at;
      different = i.different;
      reached = i.reached;
    }
