use Rattle.wy_subtype.proofs.NumberLemmas.{all_at_turn}
use Rattle.wy_subtype.proofs.KnownLemmas.{grows_more}
use Rattle.wy_subtype.proofs.reach.add_options.Goals as goal

pub loop-each-preserved : goal.loop-each-preserved
loop-each-preserved c =
    let i = c.in_ok-grown.ensures.known in
    let v = c.loop-each.invariant in
    record {
      known = i.known;
      grows = grows_more c.args.reach c.loop-each.reach c.in_ok-grown.field-0.reach v.grows i.grows;
      at = all_at_turn c.loop-each.reach.parts c.in_ok-grown.field-0.reach.parts i.grows.parts c.loop-each.numbers c.push.new.self c.args.options.now c.loop-each.each-index c.each-item.result c.as_slice.result.now c.in_ok-grown.field-0.numbers c.loop-each-test.true c.each-item.is c.as_slice.ensures c.in_ok-push.ensures.ok v.at i.at;
    }
