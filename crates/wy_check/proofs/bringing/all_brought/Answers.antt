use Rattle.wy_facts.proofs.StepLemmas.{stays_on}
use Rattle.wy_check_splits.proofs.wy_check_nodes_proofs.CutLemmas.{put_below}
use Rattle.wy_check.proofs.BringLemmas.{brought_more}
use Rattle.wy_check.proofs.bringing.all_brought.Goals as goal

pub loop-t-preserved : goal.loop-t-preserved
loop-t-preserved c =
    let now = c.loop-t.terms in
    let new = c.brought.new.terms in
    let stays = c.in_ok-brought.ensures.stays in
    record {
      so_far = brought_more now new c.args.from.now c.loop-t.numbers.items c.push.new.self.items c.args.all.now c.loop-t.t-index 0 c.in_ok-brought.field-0 c.loop-t-test.true stays c.loop-t.invariant.below c.in_ok-push.ensures.items c.in_ok-brought.ensures.value c.loop-t.invariant.so_far;
      below = put_below now new c.loop-t.numbers.items c.push.new.self.items c.in_ok-brought.field-0 stays c.loop-t.invariant.below c.in_ok-brought.ensures.within c.in_ok-push.ensures.items;
      stays = stays_on c.args.terms.now now new c.loop-t.invariant.stays stays;
    }
