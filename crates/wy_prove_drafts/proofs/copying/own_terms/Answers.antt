use Rattle.wy_facts.proofs.StepLemmas.{stays_on}
use Rattle.wy_check_nodes.proofs.CutLemmas.{put_below}
use Rattle.wy_search_laws.proofs.wy_check_proofs.BringLemmas.{brought_more}
use Rattle.wy_prove_drafts.proofs.copying.own_terms.Goals as goal

pub loop-t-preserved : goal.loop-t-preserved
loop-t-preserved c =
    let now = c.loop-t.own in
    let new = c.own_term.new.own in
    let stays = c.in_ok-own_term.ensures.stays in
    record {
      so_far = brought_more now new c.args.terms.now c.loop-t.numbers.items c.push.new.self.items c.args.all.now c.loop-t.t-index 0 c.in_ok-own_term.field-0 c.loop-t-test.true stays c.loop-t.invariant.below c.in_ok-push.ensures.items c.in_ok-own_term.ensures.value c.loop-t.invariant.so_far;
      below = put_below now new c.loop-t.numbers.items c.push.new.self.items c.in_ok-own_term.field-0 stays c.loop-t.invariant.below c.in_ok-own_term.ensures.within c.in_ok-push.ensures.items;
      stays = stays_on c.args.own.now now new c.loop-t.invariant.stays stays;
    }
