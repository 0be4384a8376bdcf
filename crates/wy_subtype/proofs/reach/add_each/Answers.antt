use Rattle.wy_subtype.proofs.NumberLemmas.{each_at_turn}
use Rattle.wy_subtype.proofs.KnownLemmas.{grows_more}
use Rattle.wy_subtype.proofs.reach.add_each.Goals as goal

pub loop-list-preserved : goal.loop-list-preserved
loop-list-preserved c =
    let i = c.in_ok-grown.ensures.known in
    let v = c.loop-list.invariant in
    record {
      known = i.known;
      grows = grows_more c.args.reach c.loop-list.reach c.in_ok-grown.field-0.reach v.grows i.grows;
      at = each_at_turn c.loop-list.reach.parts c.in_ok-grown.field-0.reach.parts i.grows.parts c.loop-list.numbers c.push.new.self c.args.lists.now c.loop-list.list-index c.list-item.result c.as_slice.result.now c.in_ok-grown.field-0.numbers c.loop-list-test.true c.list-item.is c.as_slice.ensures c.in_ok-push.ensures.ok v.at i.at;
    }
